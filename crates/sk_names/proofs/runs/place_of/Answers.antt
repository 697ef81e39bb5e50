use Rattle.std.proofs.Common.{◌≡◌, ◌<◌, ℕ, List, [], position, length, Option, Some, None, IfSome, lit<, rules, sym}
use Rattle.std.specs.Str.{bytes_eq}
use Rattle.std.proofs.lemmas.Iterator.Search.{position_from_yields_List}
use Rattle.std.proofs.lemmas.Iterator.Splits.{YieldsList-from_str_split}
use Rattle.std.proofs.lemmas.List.Quantifiers.{position-Some}
use Rattle.sk_names.specs.Names.{names_in}
use Rattle.sk_names.proofs.runs.place_of.Goals as goal
use borrow.Author.Tests.{tests}

pub returns-clause-first : goal.returns-clause-first
returns-clause-first c =
    position_from_yields_List (λ name. bytes_eq name c.args.wanted.now) _ _ c.position.result c.position.ensures.ran
    (YieldsList-from_str_split 32 c.args.names.now (lit< tt) c.split.ensures.text c.split.ensures.has_more c.split.ensures.pattern)
    (λ x b q k. search (rules, tests))

-- the place of a name is one of its text
is_within : (names : List (List ℕ)) (wanted : List ℕ) (found : Option ℕ) → found ≡ position (λ name. bytes_eq name wanted) names → IfSome found (λ place. place < length names)
is_within names wanted None is = tt
is_within names wanted (Some place) is = (position-Some (λ name. bytes_eq name wanted) names place [] (sym is)).0

pub returns-clause-within : goal.returns-clause-within
returns-clause-within c = is_within (names_in c.args.names.now) c.args.wanted.now c.position.result (returns-clause-first c)
