-- What stands behind the beginning of a word is what `strip_prefix` finds.
use Rattle.std.proofs.Common.{◌≡◌, ◌∙◌, ◌==◌, ℕ, Bool, true, false, cond, List, [], ◌∷◌, ◌++◌, drop, refl, ap, sym, rules}
use Rattle.std.specs.Prelude.{Option, Some, None, MatchOption}
use Rattle.std.specs.Borrow.{Bor}
use Rattle.std.specs.Option.{option_map}
use Rattle.std.specs.Str.Pattern.{FindsTextPrefix, LacksTextAt, StripsPrefix}
use Rattle.std.proofs.lemmas.Bool.{eq-eqb, eqb-true}
use Rattle.sk_profile_json.specs.Inspected.{behind}

begins : (start rest : List ℕ) → behind start (start ++ rest) ≡ Some rest
begins [] rest = refl
begins (first ∷ start) rest = ap (λ same. cond same (behind start (start ++ rest)) None) (eq-eqb first first refl) ∙ begins start rest

splits_if : (first byte : ℕ) (start word rest : List ℕ) (same : Bool) → (behind start word ≡ Some rest → word ≡ start ++ rest) → (byte == first) ≡ same
    → cond same (behind start word) None ≡ Some rest → byte ∷ word ≡ (first ∷ start) ++ rest
splits_if first byte start word rest true others is e =
    let here : byte ≡ first = eqb-true byte first is in
    let there = others e in
    search (rules, here, there)
splits_if first byte start word rest false others is e = absurd (search (rules, e))

splits : (start word rest : List ℕ) → behind start word ≡ Some rest → word ≡ start ++ rest
splits [] word rest e = search (rules, e)
splits (first ∷ start) [] rest e = absurd (search (rules, e))
splits (first ∷ start) (byte ∷ word) rest e = splits_if first byte start word rest (byte == first) (splits start word rest) refl e

missing : (start word : List ℕ) (o : Option (List ℕ)) → behind start word ≡ o → LacksTextAt start word 0 → None ≡ o
missing start word None e lacks = refl
missing start word (Some rest) e lacks = absurd (lacks rest (splits start word rest e))

pub text_behind : (start word : List ℕ) (found : Option (Bor (List ℕ)))
    → MatchOption found (FindsTextPrefix start word None) (λ rest. StripsPrefix (FindsTextPrefix start) word rest.now)
    → option_map (λ rest. rest.now) found ≡ behind start word
text_behind start word None lacks = missing start word (behind start word) refl lacks
text_behind start word (Some rest) w =
    ap (λ rest. Some rest) w.2 ∙ sym (begins start (drop w.0 word)) ∙ ap (behind start) (sym w.1.1)
