-- The code of sections answers what they say.
use Rattle.std.proofs.Common.{◌≡◌, ℕ, zero, suc, ◌+◌, ◌==◌, ◌&&◌, Bool, true, false, if◌then◌else◌, nat_le, List, [], ◌∷◌, ◌++◌, length, map, flat_map, refl, ap, sym, ◌∙◌, subst, arith, append_assoc, length-append}
use Rattle.std.specs.Prelude.{All, Contains, Some}
use Rattle.std.proofs.lemmas.Bool.{eqb-true, eqb-false, eq-eqb, ne_eqb}
use Rattle.std.proofs.lemmas.List.Elements.{All-head, All-tail}
use Rattle.sk_insn.specs.declared.insn.Insn.{Insn}
use Rattle.sk_insn.specs.declared.record.Record.{Record}
use Rattle.sk_insn.specs.declared.operation.Comparison.TheVariants.{Equal, GreaterOrEqual}
use Rattle.sk_insn.proofs.RecordWords.{number_there, word_of_architecture}
use Rattle.sk_filter.specs.Meaning.{State, start}
use Rattle.sk_profile.specs.Sayings.{Saying, Tree, Leaf, Away, Fork, said, saying_at}
use Rattle.sk_profile.specs.Code.{branch, jump, answer, place_of, far, over_code, head_code, fork_code, tree_code, Section, section_code, past_code, guarded_code}
use Rattle.sk_profile.specs.Means.{IsCall, IsTree, HasCode, IsSection, section_for, said_if, CodeMeansSections}
use Rattle.sk_profile.proofs.Steps.{Comes, answers, load_on, branch_on, branch_two, jump_on, past}
use Rattle.sk_profile.proofs.Joining.{pieces_on}

-- ---- values behind a tree

pub others_have : (value other : ℕ) (others : List ℕ) → (value ≡ other → ⊥) → Contains (other ∷ others) value → Contains others value
others_have value other others apart (zero, d, here) = absurd (apart (sym here))
others_have value other others apart (suc k, d, here) = (k, omega (arith, d), here)

value_on : (value : ℕ) (values : List ℕ) (after : List Insn) (call : Record) (s : State) → Contains values value
    → Comes (map answer values ++ after) (place_of value values) call s value
value_on value [] after call s has = absurd (omega (arith, has.1))
value_on value (other ∷ others) after call s has = by (λ has. value_on value others after call s has) (value == other) refl where
  by : (Contains others value → Comes (map answer others ++ after) (place_of value others) call s value) → (b : Bool) → (value == other) ≡ b → Comes (answer other ∷ (map answer others ++ after)) (if b then 0 else 1 + place_of value others) call s value
  by among true e = subst (λ v. Comes (answer other ∷ (map answer others ++ after)) 0 call s v) (sym (eqb-true value other e)) (answers other (map answer others ++ after) call s)
  by among false e =
      past (answer other ∷ []) (map answer others ++ after) (place_of value others) call s value
      (among (others_have value other others (eqb-false value other e) has))

-- ---- forks

over_on : (n : ℕ) (rest : List Insn) (call : Record) (s : State) (value : ℕ) → Comes rest n call s value → Comes (over_code n ++ rest) 0 call s value
over_on zero rest call s value g = g
over_on (suc n) rest call s value g = jump_on (suc n) rest call s value g

-- both sides of a head
one_of : (b : Bool) (over under : ℕ) (rest : List Insn) (v w : ℕ) (call : Record) (s : State) → Comes rest over call s v → Comes rest under call s w
    → Comes rest (if b then over else under) call s (if b then v else w)
one_of true over under rest v w call s up down = up
one_of false over under rest v w call s up down = down

by_two : (b : Bool) (over under : ℕ) (rest : List Insn) (v w : ℕ) (call : Record) (s : State) → Comes rest over call s v → Comes rest under call s w
    → Comes (jump (length (over_code under) + over) ∷ (over_code under ++ rest)) (if b then 0 else 1) call s (if b then v else w)
by_two true over under rest v w call s up down =
    jump_on (length (over_code under) + over) (over_code under ++ rest) call s v (past (over_code under) rest over call s v up)
by_two false over under rest v w call s up down =
    past (jump (length (over_code under) + over) ∷ []) (over_code under ++ rest) 0 call s w (over_on under rest call s w down)

head_on : (number over under : ℕ) (rest : List Insn) (v w : ℕ) (call : Record) (s : State) → Comes rest over call s v → Comes rest under call s w
    → Comes (head_code number over under ++ rest) 0 call s (if nat_le number s.a then v else w)
head_on number over under rest v w call s up down = by (nat_le over 255 && nat_le under 255) where
  by : (near : Bool) → Comes ((if near then branch GreaterOrEqual number over under ∷ []
      else branch GreaterOrEqual number 0 1 ∷ jump (length (over_code under) + over) ∷ over_code under) ++ rest) 0 call s (if nat_le number s.a then v else w)
  by true = branch_on GreaterOrEqual number over under rest call s _ (one_of (nat_le number s.a) over under rest v w call s up down)
  by false =
      branch_on GreaterOrEqual number 0 1 (jump (length (over_code under) + over) ∷ (over_code under ++ rest)) call s _
      (by_two (nat_le number s.a) over under rest v w call s up down)

fork_on : (number over under : ℕ) (front back rest : List Insn) (v w : ℕ) (call : Record) (s : State) → s.a ≡ call.nr
    → Comes (back ++ rest) over call s v → Comes (front ++ (back ++ rest)) under call s w
    → Comes (fork_code number over under front back ++ rest) 0 call s (if nat_le number call.nr then v else w)
fork_on number over under front back rest v w call s at up down =
    let head = head_code number (length front + over) under in
    let whole : (head ++ (front ++ back)) ++ rest ≡ head ++ (front ++ (back ++ rest)) = append_assoc head (front ++ back) rest ∙ ap (λ insns. head ++ insns) (append_assoc front back rest) in
    subst (λ insns. Comes insns 0 call s (if nat_le number call.nr then v else w)) (sym whole)
    (subst (λ a. Comes (head ++ (front ++ (back ++ rest))) 0 call s (if nat_le number a then v else w)) at
    (head_on number (length front + over) under (front ++ (back ++ rest)) v w call s (past front (back ++ rest) over call s v up) down))

said_by : (b : Bool) (x y : Saying) (call : Record) → (if b then said x call else said y call) ≡ said (if b then x else y) call
said_by true x y call = refl
said_by false x y call = refl

-- ---- a tree, with so many instructions before its values

tree_on : (values : List ℕ) (tree : Tree) (middle after : List Insn) (call : Record) (s : State) → IsCall call → IsTree values tree → s.a ≡ call.nr
    → Comes (tree_code values tree (length middle) ++ (middle ++ (map answer values ++ after))) (far values tree (length middle)) call s (said (saying_at tree call.nr) call)
tree_on values (Leaf narrow pieces otherwise) middle after call s ok fits at = pieces_on narrow pieces otherwise (middle ++ (map answer values ++ after)) call s ok fits
tree_on values (Away value) middle after call s ok fits at = past middle (map answer values ++ after) (place_of value values) call s value (value_on value values after call s fits)
tree_on values (Fork number below above) middle after call s ok fits at =
    let rest = middle ++ (map answer values ++ after) in
    let back = tree_code values above (length middle) in
    let more = length back + length middle in
    let front = tree_code values below more in
    let down = tree_on values below (back ++ middle) after call s ok fits.0 at in
    let same : (back ++ middle) ++ (map answer values ++ after) ≡ back ++ rest = append_assoc back middle (map answer values ++ after) in
    let w = said (saying_at below call.nr) call in
    subst (λ value. Comes (tree_code values (Fork number below above) (length middle) ++ rest) 0 call s value) (said_by (nat_le number call.nr) (saying_at above call.nr) (saying_at below call.nr) call)
    (fork_on number (far values above (length middle)) (far values below more) front back rest _ _ call s at (tree_on values above middle after call s ok fits.1 at)
    (subst (λ insns. Comes (front ++ insns) (far values below more) call s w) same
    (subst (λ n. Comes (tree_code values below n ++ ((back ++ middle) ++ (map answer values ++ after))) (far values below n) call s w) (length-append back middle) down)))

-- ---- sections

pub begins_here : (values : List ℕ) (tree : Tree) (behind : ℕ) → HasCode tree → far values tree behind ≡ 0
begins_here values (Leaf narrow pieces otherwise) behind has = refl
begins_here values (Away value) behind has = absurd has
begins_here values (Fork number below above) behind has = refl

section_on : (section : Section) (after : List Insn) (call : Record) (s : State) → IsCall call → IsSection section
    → Comes (section_code section ++ after) 0 call s (said (saying_at section.tree call.nr) call)
section_on section after call s ok fits =
    let tree = tree_code section.values section.tree 0 in
    let value = said (saying_at section.tree call.nr) call in
    let t : State = record s { a = call.nr } in
    let from_tree : Comes (tree ++ (map answer section.values ++ after)) 0 call t value =
    subst (λ n. Comes (tree ++ (map answer section.values ++ after)) n call t value) (begins_here section.values section.tree 0 fits.code)
    (tree_on section.values section.tree [] after call t ok fits.tree refl) in
    load_on 0 _ call s call.nr value (number_there call ok.number)
    (subst (λ insns. Comes insns 0 call t value) (sym (append_assoc tree (map answer section.values) after)) from_tree)

past_on : (audit : ℕ) (code rest : List Insn) (call : Record) (s : State) (value : ℕ)
    → ((s.a == audit) ≡ true → Comes (code ++ rest) 0 call s value) → ((s.a == audit) ≡ false → Comes rest 0 call s value)
    → Comes (past_code audit (length code) ++ (code ++ rest)) 0 call s value
past_on audit code rest call s value here other = by (nat_le (length code) 255) where
  beyond : (s.a == audit) ≡ false → Comes (code ++ rest) (length code) call s value
  beyond e =
      let same : length code + 0 ≡ length code = omega arith in
      subst (λ n. Comes (code ++ rest) n call s value) same (past code rest 0 call s value (other e))

  by : (near : Bool) → Comes ((if near then branch Equal audit 0 (length code) ∷ [] else branch Equal audit 1 0 ∷ jump (length code) ∷ []) ++ (code ++ rest)) 0 call s value
  by true = branch_two Equal audit 0 (length code) (code ++ rest) call s value here beyond
  by false =
      branch_two Equal audit 1 0 (jump (length code) ∷ (code ++ rest)) call s value
      (λ e. past (jump (length code) ∷ []) (code ++ rest) 0 call s value (here e))
      (λ e. jump_on (length code) (code ++ rest) call s value (beyond e))

sections_on : (bad : ℕ) (sections : List Section) (call : Record) (s : State) → IsCall call → All IsSection sections → s.a ≡ call.arch
    → Comes (flat_map guarded_code sections ++ (answer bad ∷ [])) 0 call s (said_if (section_for sections call.arch) bad call)
sections_on bad [] call s ok fits at = answers bad [] call s
sections_on bad (section ∷ sections) call s ok fits at =
    let code = section_code section in
    let jump_over = past_code section.audit (length code) in
    let others = flat_map guarded_code sections in
    let rest = others ++ (answer bad ∷ []) in
    let whole : ((jump_over ++ code) ++ others) ++ (answer bad ∷ []) ≡ jump_over ++ (code ++ rest) =
    append_assoc (jump_over ++ code) others (answer bad ∷ []) ∙ append_assoc jump_over code rest in
    subst (λ insns. Comes insns 0 call s (said_if (section_for (section ∷ sections) call.arch) bad call)) (sym whole)
    (past_on section.audit code rest call s _
    (λ e. rw (eq-eqb section.audit call.arch (sym (eqb-true s.a section.audit e) ∙ at)) (section_on section rest call s ok (All-head IsSection section sections fits)))
    (λ e. rw (ne_eqb section.audit call.arch (λ same. eqb-false s.a section.audit e (at ∙ sym same)))
    (sections_on bad sections call s ok (All-tail IsSection section sections fits) at)))

pub code_means_sections : CodeMeansSections
code_means_sections bad sections fits call ok =
    let value = said_if (section_for sections call.arch) bad call in
    let t : State = record start { a = call.arch } in
    let whole = load_on 4 (flat_map guarded_code sections ++ (answer bad ∷ [])) call start call.arch value (word_of_architecture call ∙ ap Some (omega (arith, ok.arch))) (sections_on bad sections call t ok fits refl) in
    (whole.steps, whole.is)
