-- The name of a call of x86-64 is no other call's.
use Rattle.std.proofs.Common.{◌≡◌, ℕ, ◌==◌, Bool, true, false, List, refl, sym, subst, ap, ◌∙◌, true≢false}
use Rattle.std.specs.Prelude.{Option, Some, None, is_some}
use Rattle.std.specs.List.{list_all}
use Rattle.std.specs.Option.{option_map_or}
use Rattle.std.proofs.lemmas.Bool.{eqb-true}
use Rattle.std.proofs.lemmas.List.Sums.{AllPass-from_list_all}
use Rattle.sk_names.specs.declared.architecture.Architecture.TheVariants as architecture
use Rattle.sk_names.specs.Names.{name_on, number_on}
use Rattle.sk_names.specs.Numbers.{numbers_on}
use Rattle.sk_names.specs.X86_64.{name_of, named_from, number_named}
use Rattle.sk_names.proofs.Named.{each_is_there}

-- the number has a name, by which it is found
abbrev is_own : ℕ → Bool
is_own nr =
    option_map_or (λ name. option_map_or (λ number. number == nr) (number_on architecture.X86_64 name) false) (name_on architecture.X86_64 nr) false

pub all_own : list_all is_own (numbers_on architecture.X86_64) ≡ true
unfolding name_of named_from number_named name_on number_on numbers_on
all_own = refl

own-found : (nr : ℕ) (name : List ℕ) (o : Option ℕ) → number_on architecture.X86_64 name ≡ o → option_map_or (λ number. number == nr) o false ≡ true
    → number_on architecture.X86_64 name ≡ Some nr
own-found nr name None e h = absurd (true≢false (sym h))
own-found nr name (Some number) e h = e ∙ ap (λ n. Some n) (eqb-true number nr h)

pub found_by_name : (nr : ℕ) (name : List ℕ) → name_on architecture.X86_64 nr ≡ Some name → number_on architecture.X86_64 name ≡ Some nr
found_by_name nr name e =
    let there = each_is_there architecture.X86_64 nr (ap is_some e) in
    let at = AllPass-from_list_all is_own (numbers_on architecture.X86_64) all_own there.0 nr there.1 in
    let own : is_own nr ≡ true = subst (λ n. is_own n ≡ true) there.2 at in
    own-found nr name (number_on architecture.X86_64 name) refl
    (sym (ap (λ o. option_map_or (λ text. option_map_or (λ number. number == nr) (number_on architecture.X86_64 text) false) o false) e) ∙ own)
