-- What decides on a call says what the profile says of it.
use Rattle.std.proofs.Common.{◌≡◌, ℕ, zero, suc, ◌<◌, ◌&&◌, Bool, true, false, cond, List, [], ◌∷◌, length, map, get_or, refl, subst, rules, arith}
use Rattle.std.specs.Prelude.{Option, Some, None, filter, find}
use Rattle.std.specs.List.{Contains}
use Rattle.std.specs.Option.{option_or}
use Rattle.std.proofs.lemmas.Bool.{and_parts}
use Rattle.sk_insn.specs.declared.record.Record.{Record}
use Rattle.sk_profile.specs.declared.condition.Condition.{Condition}
use Rattle.sk_profile.specs.Profiles.{Rule, Part, Profile, arm_of_rule, arms_for, has_none, is_for, is_narrow, is_unknown, is_x32, no_call, part_for, plain_rule, said_by, settled}
use Rattle.sk_profile.specs.Sayings.{Arm, all_hold, first_held, said, seen}
use Rattle.sk_profile_json.specs.Deciding.{DecidersDecide, IsDeciderOf, decider_if, decider_of, is_met}

-- ---- the first that passes, or none

find_true : {X : Type 0} → (p : X → Bool) (xs : List X) (x : X) → find p xs ≡ Some x → Contains xs x × (p x ≡ true)
find_true p [] x h = absurd (search (rules, h))
find_true p (y ∷ ys) x h = by (p y) refl h (find_true p ys x) where
  by : (b : Bool) → p y ≡ b → cond b (Some y) (find p ys) ≡ Some x → (find p ys ≡ Some x → Contains ys x × (p x ≡ true))
      → Contains (y ∷ ys) x × (p x ≡ true)
  by true t e more = let same : y ≡ x = search (rules, e) in subst (λ z. Contains (y ∷ ys) z × (p z ≡ true)) same ((0, omega arith, refl), t)
  by false t e more = let rest = more e in ((suc rest.0.0, omega (arith, rest.0.1), rest.0.2), rest.1)

find_false : {X : Type 0} → (p : X → Bool) (xs : List X) → find p xs ≡ None → (x : X) → Contains xs x → p x ≡ false
find_false p [] h x c = absurd (omega (arith, c.1))
find_false p (y ∷ ys) h x c = by (p y) refl h (λ e. find_false p ys e x) where
  at : p y ≡ false → (Contains ys x → p x ≡ false) → (k : ℕ) → k < length (y ∷ ys) → get_or (y ∷ ys) k x ≡ x → p x ≡ false
  at t more zero l same = subst (λ z. p z ≡ false) same t
  at t more (suc k) l same = more (k, omega arith, same)

  by : (b : Bool) → p y ≡ b → cond b (Some y) (find p ys) ≡ None → (find p ys ≡ None → Contains ys x → p x ≡ false) → p x ≡ false
  by true t e more = absurd (search (rules, e))
  by false t e more = at t (more e) c.0 c.1 c.2

-- ---- rules

abbrev value_or : ℕ → Option Rule → ℕ
value_or other None = other
value_or other (Some rule) = rule.value

-- the first arm that holds is the first rule that is met
held : (default nr other : ℕ) (call : Record) (rules : List Rule)
    → first_held (arms_for default rules nr) other call ≡ value_or other (find (is_met default nr call) rules)
held default nr other call [] = refl
held default nr other call (rule ∷ rules) =
    by (is_for default nr rule) (all_hold rule.conditions call) refl refl (held default nr other call rules) where
      by : (a b : Bool) → is_for default nr rule ≡ a → all_hold rule.conditions call ≡ b
          → first_held (arms_for default rules nr) other call ≡ value_or other (find (is_met default nr call) rules)
          → first_held (arms_for default (rule ∷ rules) nr) other call ≡ value_or other (find (is_met default nr call) (rule ∷ rules))
      by true true f h more = rw (f, h) refl
      by true false f h more = rw (f, h) more
      by false b f h more = rw f more

-- with none that goes first
settled_none : (narrow : Bool) (arms : List Arm) (default : ℕ) (call : Record)
    → said (settled narrow None arms default) call ≡ first_held arms default (seen narrow call)
settled_none narrow [] default call = refl
settled_none narrow (arm ∷ arms) default call = refl

without : (conditions : List Condition) (call : Record) → has_none conditions ≡ true → all_hold conditions call ≡ true
without [] call h = refl
without (c ∷ conditions) call h = absurd (search (rules, h))

both : (a b : Bool) → a ≡ true → b ≡ true → (a && b) ≡ true
both a b s t = rw (s, t) refl

-- ---- a part

module _ (profile : Profile) (call : Record) (part : Part) (of : part_for profile call.arch ≡ Some part) where
  abbrev as_seen : Record
  as_seen = seen (is_narrow part call.nr) call

  module _ (known : is_unknown part call.nr ≡ false) (own : (part.without_x32 && is_x32 call.nr) ≡ false) where
    by_rule : (plain met : Option Rule) → plain_rule profile.default part.rules call.nr ≡ plain
        → find (is_met profile.default call.nr as_seen) part.rules ≡ met → IsDeciderOf profile call (decider_of (option_or plain met))
    by_rule (Some rule) met p m =
        let first = find_true (λ (rule : Rule). is_for profile.default call.nr rule && has_none rule.conditions) part.rules rule p in
        let split = and_parts (is_for profile.default call.nr rule) (has_none rule.conditions) first.1 in
        record {
          part = part;
          of = of;
          rule = rule;
          there = first.0;
          from = refl;
          met = both (is_for profile.default call.nr rule) (all_hold rule.conditions as_seen) split.0 (without rule.conditions as_seen split.1);
          says = rw (of, known, own, p) refl;
        }
    by_rule None (Some rule) p m =
        let first = find_true (is_met profile.default call.nr as_seen) part.rules rule m in
        record {
          part = part;
          of = of;
          rule = rule;
          there = first.0;
          from = refl;
          met = first.1;
          says = rw (
            of,
            known,
            own,
            p,
            settled_none (is_narrow part call.nr) (arms_for profile.default part.rules call.nr) profile.default call,
            held profile.default call.nr profile.default as_seen part.rules,
            m,
          ) refl;
        }
    by_rule None None p m = record {
      part = part;
      of = of;
      none = λ rule c. find_false (is_met profile.default call.nr as_seen) part.rules m rule c;
      says = rw (
        of,
        known,
        own,
        p,
        settled_none (is_narrow part call.nr) (arms_for profile.default part.rules call.nr) profile.default call,
        held profile.default call.nr profile.default as_seen part.rules,
        m,
      ) refl;
    }

-- ---- a profile

decide : (profile : Profile) (call : Record) (o : Option Part) → part_for profile call.arch ≡ o
    → IsDeciderOf profile call (decider_if profile.default o call)
decide profile call None of = rw of refl
decide profile call (Some part) of = by (is_unknown part call.nr) (part.without_x32 && is_x32 call.nr) refl refl where
  unknown : is_unknown part call.nr ≡ true → said_by profile call ≡ no_call
  unknown u = rw (of, u) refl

  by : (a b : Bool) → is_unknown part call.nr ≡ a → (part.without_x32 && is_x32 call.nr) ≡ b
      → IsDeciderOf profile call (decider_if profile.default (Some part) call)
  by true b u x = rw u (unknown u)
  by false true u x = rw (u, x) (rw (of, u, x) refl)
  by false false u x = rw (u, x) (by_rule profile call part of u x _ _ refl refl)

pub deciders_decide : DecidersDecide
deciders_decide profile call = decide profile call (part_for profile call.arch) refl
