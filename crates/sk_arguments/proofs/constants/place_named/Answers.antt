use Rattle.std.proofs.Common.{◌≡◌, ap, refl, subst, sym, ◌∙◌, position}
use Rattle.std.specs.Prelude.{IsTrue}
use Rattle.std.specs.Str.{bytes_eq}
use Rattle.sk_arguments.specs.Constants.{all_names}
use Rattle.sk_arguments.specs.Runs.{follow, names_of_all}
use Rattle.sk_arguments.specs.declared.tables.constants.TheConstants.{NAMES, RUNS}
use Rattle.sk_arguments.proofs.constants.place_named.Goals as goal

names_follow : IsTrue (follow NAMES.now 0 RUNS.now)
unfolding follow
names_follow = refl

names_are_all : names_of_all NAMES.now RUNS.now ≡ all_names
unfolding all_names names_of_all
names_are_all = refl

pub place_in-requires : goal.place_in-requires
place_in-requires c = record { follow = subst (λ text. IsTrue (follow text 0 RUNS.now)) (sym c.as_bytes.ensures.value) names_follow }

pub returns : goal.returns
returns c = record {
  first = c.place_in.ensures.first
      ∙ ap (λ text. position (λ name. bytes_eq name c.args.wanted.now) (names_of_all text RUNS.now)) c.as_bytes.ensures.value
      ∙ ap (λ names. position (λ name. bytes_eq name c.args.wanted.now) names) names_are_all;
}
