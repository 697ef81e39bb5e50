-- First tokens, and lists that begin otherwise.
use Rattle.std.proofs.Common.{◌≡◌, ℕ, nat_eq, Bool, true, false, List, [], ◌∷◌, ap, sym, ◌∙◌, subst, arith}
use Rattle.std.specs.Prelude.{Option, Some, None, IfSome, IfNone, is_some}
use Rattle.sk_terms.specs.declared.term.Register.{Register}
use Rattle.sk_terms.specs.declared.term.Register.TheVariants as register
use Rattle.sk_policy_text.specs.declared.token.Relation.{Relation}
use Rattle.sk_policy_text.specs.declared.token.Relation.TheVariants as relation
use Rattle.sk_policy_text.specs.declared.token.Token.{Token}
use Rattle.sk_policy_text.specs.declared.token.Token.TheVariants as token

abbrev pub kind : Token → ℕ
kind token.Open = 1
kind token.Close = 2
kind token.And = 3
kind token.Or = 4
kind token.BitAnd = 5
kind token.BitOr = 6
kind token.BitNot = 7
kind (token.Compare relation) = 8
kind (token.Register register) = 9
kind (token.Number n) = 10
kind token.Other = 11

abbrev pub first_kind : List Token → ℕ
first_kind [] = 0
first_kind (first ∷ rest) = kind first

abbrev pub tail : List Token → List Token
tail [] = []
tail (first ∷ rest) = rest

abbrev pub first : List Token → Token
first [] = token.Other
first (it ∷ rest) = it

abbrev number_or_0 : Token → ℕ
number_or_0 (token.Number n) = n
number_or_0 it = 0

abbrev pub number : List Token → ℕ
number tokens = number_or_0 (first tokens)

abbrev relation_or_is : Token → Relation
relation_or_is (token.Compare it) = it
relation_or_is _ = relation.Is

abbrev pub relation_at : List Token → Relation
relation_at tokens = relation_or_is (first tokens)

abbrev register_or_number : Token → Register
register_or_number (token.Register it) = it
register_or_number _ = register.Number

abbrev pub register_at : List Token → Register
register_at tokens = register_or_number (first tokens)

abbrev Holds : Bool → Type 0
Holds true = Unit {0}
Holds false = ⊥

pub true_not_false : true ≡ false → ⊥
true_not_false e = subst Holds e tt

same_eq : (a b : ℕ) → a ≡ b → nat_eq a b ≡ true
same_eq a b e = grind (arith, e)

-- lists of which the first tokens are of two kinds are not the same
pub differ : {one other : List Token} → one ≡ other → nat_eq (first_kind one) (first_kind other) ≡ false → ⊥
differ {one} {other} e unlike = true_not_false (sym (same_eq _ _ (ap first_kind e)) ∙ unlike)

pub some_there : {X : Type 0} {P : X → Type 0} {Q : Type 0} (r : Option X) (is : Bool) → is ≡ is_some r → is ≡ true → IfSome r P → ((x : X) → P x → Q) → Q
some_there (Some x) is same it p go = go x p
some_there None is same it p go = absurd (true_not_false (sym it ∙ same))

pub none_there : {X : Type 0} {Q : Type 0} (r : Option X) (is : Bool) → is ≡ is_some r → is ≡ false → IfNone r Q → Q
none_there (Some x) is same it q = absurd (true_not_false (sym same ∙ it))
none_there None is same it q = q
