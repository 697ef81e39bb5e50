-- Rows are read one by one: those before, and what is read of the rest.
use Rattle.std.proofs.Common.{◌≡◌, ◌<◌, ◌+◌, ◌-◌, ◌∙◌, ap, arith, sym, refl, suc, ℕ, List, [], ◌∷◌, ◌++◌, Option, Some, None, append_assoc}
use Rattle.sk_insn.specs.declared.insn.Insn.{Insn}
use Rattle.sk_forms.specs.declared.token.Token.{Token}
use Rattle.sk_forms.specs.declared.rows.Form.{Form}
use Rattle.sk_forms.specs.Grammar.{◌>>=◌}
use Rattle.sk_forms.specs.Rows.{row, rows}

-- these instructions before those that are read
abbrev pub put : {R : Type 0} → List Insn → Option (List Insn × R) → Option (List Insn × R)
put front None = None
put front (Some it) = Some (front ++ it.0, it.1)

put_put : (a b : List Insn) (o : Option (List Insn × List Token)) → put (a ++ b) o ≡ put a (put b o)
put_put a b None = refl
put_put a b (Some it) = ap (λ (l : List Insn). Some (l, it.1)) (append_assoc a b it.0)

one_more : (insn : Insn) (o : Option (List Insn × List Token)) → (o >>= λ others. Some (insn ∷ others.0, others.1)) ≡ put (insn ∷ []) o
one_more insn None = refl
one_more insn (Some it) = refl

rows_some : (form : Form) (place m : ℕ) (rest next : List Token) (insn : Insn) → row form place rest ≡ Some (insn, next)
    → rows form place (suc m) rest ≡ put (insn ∷ []) (rows form (suc place) m next)
rows_some form place m rest next insn h = rw h (one_more insn (rows form (suc place) m next))

rows_none : (form : Form) (place m : ℕ) (rest : List Token) → row form place rest ≡ None → rows form place (suc m) rest ≡ None
rows_none form place m rest h = rw h refl

pub turn : (form : Form) (place count : ℕ) (rest next : List Token) (insn : Insn) (insns more : List Insn) (whole : Option (List Insn × List Token))
    → place < count → row form place rest ≡ Some (insn, next) → more ≡ insns ++ insn ∷ []
    → put insns (rows form place (count - place) rest) ≡ whole → put more (rows form (place + 1) (count - (place + 1)) next) ≡ whole
turn form place count rest next insn insns more whole within read grown so_far =
    let left : count - place ≡ suc (count - (place + 1)) = omega arith in
    let one : place + 1 ≡ suc place = omega arith in
    ap (λ (l : List Insn). put l (rows form (place + 1) (count - (place + 1)) next)) grown
    ∙ put_put insns (insn ∷ []) (rows form (place + 1) (count - (place + 1)) next)
    ∙ ap (λ (n : ℕ). put insns (put (insn ∷ []) (rows form n (count - (place + 1)) next))) one
    ∙ ap (put insns) (sym (rows_some form place (count - (place + 1)) rest next insn read))
    ∙ ap (λ (n : ℕ). put insns (rows form place n rest)) (sym left)
    ∙ so_far

pub refused : (form : Form) (place count : ℕ) (rest : List Token) (insns : List Insn) (whole : Option (List Insn × List Token))
    → place < count → row form place rest ≡ None → put insns (rows form place (count - place) rest) ≡ whole → None ≡ whole
refused form place count rest insns whole within none so_far =
    let left : count - place ≡ suc (count - (place + 1)) = omega arith in
    sym (ap (λ (n : ℕ). put insns (rows form place n rest)) left ∙ ap (put insns) (rows_none form place (count - (place + 1)) rest none)) ∙ so_far
