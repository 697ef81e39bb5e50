-- Instructions that `==` finds equal are the same, field by field.
use Rattle.std.proofs.Common.{◌≡◌, ◌&&◌, ◌==◌, Bool, true, List, ap, refl, sym, ◌∙◌}
use Rattle.std.specs.Bool.{Decides}
use Rattle.std.specs.Cmp.Lexicographic.{pointwise}
use Rattle.std.proofs.lemmas.Bool.{and_parts, and_from, eqb-true, eq-eqb}
use Rattle.std.proofs.lemmas.Slice.Eq.{slice_eq-Decides}
use Rattle.sk_insn.specs.declared.insn.Insn.{Insn}
use Rattle.sk_insn.specs.contracts.insn.InsnPartialEq.TheImpl.{eq-value}

same_is : (a b : Insn) → eq-value.it a b ≡ true → a ≡ b
same_is a b e =
    let code = and_parts (a.code == b.code) ((a.jt == b.jt) && ((a.jf == b.jf) && (a.k == b.k))) e in
    let jt = and_parts (a.jt == b.jt) ((a.jf == b.jf) && (a.k == b.k)) code.1 in
    let jf = and_parts (a.jf == b.jf) (a.k == b.k) jt.1 in
    let codes = eqb-true a.code b.code code.0 in
    let trues = eqb-true a.jt b.jt jt.0 in
    let falses = eqb-true a.jf b.jf jf.0 in
    let constants = eqb-true a.k b.k jf.1 in
    λ i. record { code = codes i; jt = trues i; jf = falses i; k = constants i }

same_self : (a : Insn) → eq-value.it a a ≡ true
same_self a =
    and_from (a.code == a.code) ((a.jt == a.jt) && ((a.jf == a.jf) && (a.k == a.k))) (eq-eqb a.code a.code refl)
    (and_from (a.jt == a.jt) ((a.jf == a.jf) && (a.k == a.k)) (eq-eqb a.jt a.jt refl)
    (and_from (a.jf == a.jf) (a.k == a.k) (eq-eqb a.jf a.jf refl) (eq-eqb a.k a.k refl)))

insns_decide : (a b : Insn) → Decides (eq-value.it a b) (a ≡ b)
insns_decide a b = (same_is a b, λ same. sym (ap (eq-value.it a) same) ∙ same_self a)

pub same_insns : (xs ys : List Insn) (r : Bool) → r ≡ pointwise eq-value.it xs ys → Decides r (xs ≡ ys)
same_insns = slice_eq-Decides insns_decide
