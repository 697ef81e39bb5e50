use Rattle.std.proofs.Common.{◌≡◌, ◌<◌, ◌≤◌, length, flat_map, arith, sym, subst}
use Rattle.std.specs.Prelude.{IsTrue}
use Rattle.sk_filter.specs.Meaning.{meaning_of}
use Rattle.sk_filter.specs.Valid.{IsValid}
use Rattle.sk_filter.specs.Walk.{walks}
use Rattle.sk_profile.specs.Code.{guarded_code, filter_code}
use Rattle.sk_profile.specs.Means.{Gives}
use Rattle.sk_profile.specs.Profiles.{said_by}
use Rattle.sk_profile.specs.Views.{profile_of}
use Rattle.sk_profile.proofs.Whole.{whole_code, whole_means, whole_valid, whole_known, whole_clear, whole_long}
use Rattle.sk_profile.proofs.filter.profile_filter.Goals as goal

pub returns-then-len-gt-MOST_INSNS-clause-long : goal.returns-then-len-gt-MOST_INSNS-clause-long
returns-then-len-gt-MOST_INSNS-clause-long c = λ is.
    let p = profile_of c.args.profile.now in
    let puts = c.in_ok-push_parts.ensures.sections in
    let whole : c.push-2.new.self.items ≡ filter_code p.bad puts.sections =
    whole_code p.bad c.push.new.self.items c.push_parts.new.code.items (flat_map guarded_code puts.sections) c.push-2.new.self.items
    (grind (arith, c.in_ok-push.ensures.items, c.new-code.ensures.items, c.load.ensures.insn)) puts.code (grind (arith, c.in_ok-push-2.ensures.items, c.answer.ensures.insn)) in
    whole_long p puts.sections puts.are (subst (λ insns. 4096 < length insns) whole (omega (arith, c.if-len-gt-MOST_INSNS.true, c.len.ensures, c.push-2.new.self.ok.0)))

pub returns-clause-means : goal.returns-clause-means
returns-clause-means c = λ call ok.
    let p = profile_of c.args.profile.now in
    let puts = c.in_ok-push_parts.ensures.sections in
    let whole : c.push-2.new.self.items ≡ filter_code p.bad puts.sections =
    whole_code p.bad c.push.new.self.items c.push_parts.new.code.items (flat_map guarded_code puts.sections) c.push-2.new.self.items
    (grind (arith, c.in_ok-push.ensures.items, c.new-code.ensures.items, c.load.ensures.insn)) puts.code (grind (arith, c.in_ok-push-2.ensures.items, c.answer.ensures.insn)) in
    subst (λ insns. Gives (said_by p call) (meaning_of insns call)) (sym whole) (whole_means p puts.sections puts.are call ok)

pub returns-clause-valid : goal.returns-clause-valid
returns-clause-valid c =
    let p = profile_of c.args.profile.now in
    let puts = c.in_ok-push_parts.ensures.sections in
    let whole : c.push-2.new.self.items ≡ filter_code p.bad puts.sections =
    whole_code p.bad c.push.new.self.items c.push_parts.new.code.items (flat_map guarded_code puts.sections) c.push-2.new.self.items
    (grind (arith, c.in_ok-push.ensures.items, c.new-code.ensures.items, c.load.ensures.insn)) puts.code (grind (arith, c.in_ok-push-2.ensures.items, c.answer.ensures.insn)) in
    subst IsValid (sym whole)
    (whole_valid p puts.sections puts.are (subst (λ insns. length insns ≤ 4096) whole (omega (arith, c.if-len-gt-MOST_INSNS.false, c.len.ensures, c.push-2.new.self.ok.0))))

pub returns-clause-known : goal.returns-clause-known
returns-clause-known c = λ nr small always.
    let p = profile_of c.args.profile.now in
    let puts = c.in_ok-push_parts.ensures.sections in
    let whole : c.push-2.new.self.items ≡ filter_code p.bad puts.sections =
    whole_code p.bad c.push.new.self.items c.push_parts.new.code.items (flat_map guarded_code puts.sections) c.push-2.new.self.items
    (grind (arith, c.in_ok-push.ensures.items, c.new-code.ensures.items, c.load.ensures.insn)) puts.code (grind (arith, c.in_ok-push-2.ensures.items, c.answer.ensures.insn)) in
    subst (λ insns. IsTrue (walks insns nr)) (sym whole) (whole_known p puts.sections puts.are nr small always)

pub returns-clause-clear : goal.returns-clause-clear
returns-clause-clear c = whole_clear (profile_of c.args.profile.now) c.in_ok-push_parts.ensures.clear
