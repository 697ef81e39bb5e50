use Rattle.std.proofs.Common.{◌≡◌, List, Ok, subst}
use Rattle.sk_insn.specs.declared.insn.Insn.{Insn}
use Rattle.sk_insn.specs.Instructions.{image_instructions}
use Rattle.sk_profile.specs.Views.{profile_of}
use Rattle.sk_profile_json.proofs.Built.{no_wrong_rule}
use Rattle.sk_profile_json.proofs.making.built.Goals as goal

pub unreachable-requires : goal.unreachable-requires
unreachable-requires c =
    no_wrong_rule (profile_of c.args.profile.now) c.in-Err-Rule.field-0 c.in-Err-Rule.field-0-0 c.requires.good c.in-Err-Rule.field-0-is c.in-Err-Rule.ensures.fault

pub returns-in-Err-TooLong : goal.returns-in-Err-TooLong
returns-in-Err-TooLong c = record { builds = c.in-Err-TooLong.ensures.long c.in-Err-TooLong.field-0-is }

pub returns-in_ok-image_of-in-Ok : goal.returns-in_ok-image_of-in-Ok
returns-in_ok-image_of-in-Ok c =
    let image = c.in_ok-image_of-in-Ok.field-0.items in record {
      builds = record {
        insns = c.in-Ok.insns.items;
        read = subst (λ (insns : List Insn). image_instructions image ≡ Ok insns) c.deref.ensures.value c.in_ok-image_of-in-Ok.ensures.read;
        valid = c.in-Ok.ensures.valid;
        means = c.in-Ok.ensures.means;
        guard = c.in-Ok.ensures.guard;
      };
    }
