-- A text of four parts, appended one after the other.
use Rattle.std.proofs.Common.{◌≡◌, ◌∙◌, ap, ℕ, List, [], ◌++◌, append_assoc}

pub four_parts : (a b c d t0 t1 t2 t3 t4 : List ℕ) → t0 ≡ [] → t1 ≡ t0 ++ a → t2 ≡ t1 ++ b → t3 ≡ t2 ++ c → t4 ≡ t3 ++ d → t4 ≡ a ++ (b ++ (c ++ d))
four_parts a b c d t0 t1 t2 t3 t4 e0 e1 e2 e3 e4 =
    e4 ∙ ap (λ t. t ++ d) (e3 ∙ ap (λ t. t ++ c) (e2 ∙ ap (λ t. t ++ b) (e1 ∙ ap (λ t. t ++ a) e0)))
    ∙ append_assoc (a ++ b) c d ∙ append_assoc a b (c ++ d)
