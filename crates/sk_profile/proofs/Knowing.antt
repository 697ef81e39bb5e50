-- Linux's walk for a number of x86-64 comes to yes where the tree allows it and asks for nothing.
use Rattle.std.proofs.Common.{◌≡◌, ℕ, zero, suc, ◌+◌, ◌==◌, ◌&&◌, Bool, true, false, if◌then◌else◌, nat_le, List, [], ◌∷◌, ◌++◌, length, map, flat_map, refl, ap, sym, ◌∙◌, subst, arith, append_assoc, length-append}
use Rattle.std.specs.Prelude.{Contains, All, Some}
use Rattle.std.proofs.lemmas.Bool.{eqb-true, eqb-false, eq-eqb, ne_eqb}
use Rattle.std.proofs.lemmas.List.Elements.{All-head, All-tail}
use Rattle.sk_insn.specs.declared.insn.Insn.{Insn}
use Rattle.sk_insn.specs.declared.operation.Operand.TheVariants.{Constant}
use Rattle.sk_insn.specs.declared.operation.Comparison.{Comparison}
use Rattle.sk_insn.specs.declared.operation.Comparison.TheVariants.{Equal, GreaterOrEqual}
use Rattle.sk_insn.specs.declared.operation.Operation.TheVariants.{LoadRecord, Jump, Branch, ReturnConstant}
use Rattle.sk_insn.specs.Actions.{allow}
use Rattle.sk_insn.specs.Record.{architecture}
use Rattle.sk_insn.proofs.OperationTable.{operation_of-code_of}
use Rattle.sk_filter.specs.Meaning.{holds}
use Rattle.sk_filter.specs.Walk.{walks_on, walks_from}
use Rattle.sk_profile.specs.Sayings.{Saying, IsBare, Piece, Single, Joined, arms_of, Tree, Leaf, Away, Fork, saying_at}
use Rattle.sk_profile.specs.Code.{load, branch, jump, answer, place_of, far, over_code, head_code, fork_code, saying_code, tree_code, Section, section_code, past_code, guarded_code}
use Rattle.sk_profile.specs.Means.{IsTree, IsSection, IsAllowed, SectionsAreKnown, section_for}
use Rattle.sk_profile.proofs.Trees.{others_have, begins_here}

-- from here on the walk comes to yes
abbrev Knows : List Insn → ℕ → ℕ → ℕ → Type 0
Knows insns skip nr a = walks_from insns skip nr a ≡ true

knows_load_number : (rest : List Insn) (nr a : ℕ) → Knows rest 0 nr nr → Knows (load 0 ∷ rest) 0 nr a
knows_load_number rest nr a g = ap (λ o. walks_on o (load 0) nr a (λ skip a. walks_from rest skip nr a)) (operation_of-code_of LoadRecord) ∙ g

knows_load_architecture : (rest : List Insn) (nr a : ℕ) → Knows rest 0 nr architecture → Knows (load 4 ∷ rest) 0 nr a
knows_load_architecture rest nr a g = ap (λ o. walks_on o (load 4) nr a (λ skip a. walks_from rest skip nr a)) (operation_of-code_of LoadRecord) ∙ g

knows_branch : (comparison : Comparison) (k jt jf : ℕ) (rest : List Insn) (nr a : ℕ) → Knows rest (if holds comparison a k then jt else jf) nr a → Knows (branch comparison k jt jf ∷ rest) 0 nr a
knows_branch comparison k jt jf rest nr a g =
    ap (λ o. walks_on o (branch comparison k jt jf) nr a (λ skip a. walks_from rest skip nr a)) (operation_of-code_of (Branch comparison Constant)) ∙ g

knows_jump : (k : ℕ) (rest : List Insn) (nr a : ℕ) → Knows rest k nr a → Knows (jump k ∷ rest) 0 nr a
knows_jump k rest nr a g = ap (λ o. walks_on o (jump k) nr a (λ skip a. walks_from rest skip nr a)) (operation_of-code_of Jump) ∙ g

knows_answer : (rest : List Insn) (nr a : ℕ) → Knows (answer allow ∷ rest) 0 nr a
knows_answer rest nr a = ap (λ o. walks_on o (answer allow) nr a (λ skip a. walks_from rest skip nr a)) (operation_of-code_of ReturnConstant)

-- instructions that are passed over
past : (front rest : List Insn) (n nr a : ℕ) → Knows rest n nr a → Knows (front ++ rest) (length front + n) nr a
past [] rest n nr a g =
    let e : 0 + n ≡ n = omega arith in ap (λ k. walks_from rest k nr a) e ∙ g
past (insn ∷ front) rest n nr a g =
    let e : length (insn ∷ front) + n ≡ suc (length front + n) = omega arith in
    ap (λ k. walks_from (insn ∷ (front ++ rest)) k nr a) e ∙ past front rest n nr a g

value_known : (values : List ℕ) (after : List Insn) (nr a : ℕ) → Contains values allow → Knows (map answer values ++ after) (place_of allow values) nr a
value_known [] after nr a has = absurd (omega (arith, has.1))
value_known (other ∷ others) after nr a has = by (λ has. value_known others after nr a has) (allow == other) refl where
  by : (Contains others allow → Knows (map answer others ++ after) (place_of allow others) nr a) → (b : Bool) → (allow == other) ≡ b
      → Knows (answer other ∷ (map answer others ++ after)) (if b then 0 else 1 + place_of allow others) nr a
  by among true e = subst (λ v. Knows (answer v ∷ (map answer others ++ after)) 0 nr a) (eqb-true allow other e) (knows_answer (map answer others ++ after) nr a)
  by among false e =
      past (answer other ∷ []) (map answer others ++ after) (place_of allow others) nr a (among (others_have allow other others (eqb-false allow other e) has))

over_known : (n : ℕ) (rest : List Insn) (nr a : ℕ) → Knows rest n nr a → Knows (over_code n ++ rest) 0 nr a
over_known zero rest nr a g = g
over_known (suc n) rest nr a g = knows_jump (suc n) rest nr a g

-- the side of a fork that the number is on
either_side : (b : Bool) (over under : ℕ) (rest : List Insn) (nr a : ℕ) → (b ≡ true → Knows rest over nr a) → (b ≡ false → Knows rest under nr a)
    → Knows rest (if b then over else under) nr a
either_side true over under rest nr a up down = up refl
either_side false over under rest nr a up down = down refl

by_two : (b : Bool) (over under : ℕ) (rest : List Insn) (nr a : ℕ) → (b ≡ true → Knows rest over nr a) → (b ≡ false → Knows rest under nr a)
    → Knows (jump (length (over_code under) + over) ∷ (over_code under ++ rest)) (if b then 0 else 1) nr a
by_two true over under rest nr a up down =
    knows_jump (length (over_code under) + over) (over_code under ++ rest) nr a (past (over_code under) rest over nr a (up refl))
by_two false over under rest nr a up down =
    past (jump (length (over_code under) + over) ∷ []) (over_code under ++ rest) 0 nr a (over_known under rest nr a (down refl))

head_known : (number over under : ℕ) (rest : List Insn) (nr : ℕ) → (nat_le number nr ≡ true → Knows rest over nr nr) → (nat_le number nr ≡ false → Knows rest under nr nr)
    → Knows (head_code number over under ++ rest) 0 nr nr
head_known number over under rest nr up down = by (nat_le over 255 && nat_le under 255) where
  by : (near : Bool) → Knows ((if near then branch GreaterOrEqual number over under ∷ []
      else branch GreaterOrEqual number 0 1 ∷ jump (length (over_code under) + over) ∷ over_code under) ++ rest) 0 nr nr
  by true = knows_branch GreaterOrEqual number over under rest nr nr (either_side (nat_le number nr) over under rest nr nr up down)
  by false =
      knows_branch GreaterOrEqual number 0 1 (jump (length (over_code under) + over) ∷ (over_code under ++ rest)) nr nr
      (by_two (nat_le number nr) over under rest nr nr up down)

fork_known : (number over under : ℕ) (front back rest : List Insn) (nr : ℕ)
    → (nat_le number nr ≡ true → Knows (back ++ rest) over nr nr) → (nat_le number nr ≡ false → Knows (front ++ (back ++ rest)) under nr nr)
    → Knows (fork_code number over under front back ++ rest) 0 nr nr
fork_known number over under front back rest nr up down =
    let head = head_code number (length front + over) under in
    let whole : (head ++ (front ++ back)) ++ rest ≡ head ++ (front ++ (back ++ rest)) = append_assoc head (front ++ back) rest ∙ ap (λ insns. head ++ insns) (append_assoc front back rest) in
    subst (λ insns. Knows insns 0 nr nr) (sym whole)
    (head_known number (length front + over) under (front ++ (back ++ rest)) nr (λ e. past front (back ++ rest) over nr nr (up e)) down)

leaf_known : (narrow : Bool) (pieces : List Piece) (otherwise : ℕ) (rest : List Insn) (nr : ℕ) → flat_map arms_of pieces ≡ [] → otherwise ≡ allow → Knows (saying_code narrow pieces otherwise ++ rest) 0 nr nr
leaf_known narrow [] otherwise rest nr none same = subst (λ v. Knows (answer v ∷ rest) 0 nr nr) (sym same) (knows_answer rest nr nr)
leaf_known narrow (Single arm ∷ pieces) otherwise rest nr none same = cc
leaf_known narrow (Joined choice ∷ pieces) otherwise rest nr none same = cc

sides : (b : Bool) (up down : Saying) → IsBare allow (if b then up else down) → (b ≡ true → IsBare allow up) × (b ≡ false → IsBare allow down)
sides true up down bare = (λ yes. bare, λ no. cc)
sides false up down bare = (λ no. cc, λ yes. bare)

tree_known : (values : List ℕ) (tree : Tree) (middle after : List Insn) (nr : ℕ) → IsTree values tree → IsBare allow (saying_at tree nr)
    → Knows (tree_code values tree (length middle) ++ (middle ++ (map answer values ++ after))) (far values tree (length middle)) nr nr
tree_known values (Leaf narrow pieces otherwise) middle after nr fits bare = leaf_known narrow pieces otherwise (middle ++ (map answer values ++ after)) nr bare.0 bare.1
tree_known values (Away value) middle after nr fits bare =
    past middle (map answer values ++ after) (place_of value values) nr nr
    (subst (λ v. Knows (map answer values ++ after) (place_of v values) nr nr) (sym bare.1) (value_known values after nr nr (subst (Contains values) bare.1 fits)))
tree_known values (Fork number below above) middle after nr fits bare =
    let rest = middle ++ (map answer values ++ after) in
    let back = tree_code values above (length middle) in
    let more = length back + length middle in
    let front = tree_code values below more in
    let either = sides (nat_le number nr) (saying_at above nr) (saying_at below nr) bare in
    let same : (back ++ middle) ++ (map answer values ++ after) ≡ back ++ rest = append_assoc back middle (map answer values ++ after) in
    fork_known number (far values above (length middle)) (far values below more) front back rest nr
    (λ e. tree_known values above middle after nr fits.1 (either.0 e))
    (λ e. subst (λ insns. Knows (front ++ insns) (far values below more) nr nr) same
    (subst (λ n. Knows (tree_code values below n ++ ((back ++ middle) ++ (map answer values ++ after))) (far values below n) nr nr) (length-append back middle)
    (tree_known values below (back ++ middle) after nr fits.0 (either.1 e))))

section_known : (section : Section) (after : List Insn) (nr a : ℕ) → IsSection section → IsBare allow (saying_at section.tree nr) → Knows (section_code section ++ after) 0 nr a
section_known section after nr a fits bare =
    let tree = tree_code section.values section.tree 0 in
    let from_tree : Knows (tree ++ (map answer section.values ++ after)) 0 nr nr =
    subst (λ n. Knows (tree ++ (map answer section.values ++ after)) n nr nr) (begins_here section.values section.tree 0 fits.code)
    (tree_known section.values section.tree [] after nr fits.tree bare) in
    knows_load_number ((tree ++ map answer section.values) ++ after) nr a
    (subst (λ insns. Knows insns 0 nr nr) (sym (append_assoc tree (map answer section.values) after)) from_tree)

past_known : (audit : ℕ) (code rest : List Insn) (nr a : ℕ) → ((a == audit) ≡ true → Knows (code ++ rest) 0 nr a) → ((a == audit) ≡ false → Knows rest 0 nr a)
    → Knows (past_code audit (length code) ++ (code ++ rest)) 0 nr a
past_known audit code rest nr a here other = by (nat_le (length code) 255) where
  beyond : (a == audit) ≡ false → Knows (code ++ rest) (length code) nr a
  beyond e =
      let same : length code + 0 ≡ length code = omega arith in
      subst (λ n. Knows (code ++ rest) n nr a) same (past code rest 0 nr a (other e))

  by : (near : Bool) → Knows ((if near then branch Equal audit 0 (length code) ∷ [] else branch Equal audit 1 0 ∷ jump (length code) ∷ []) ++ (code ++ rest)) 0 nr a
  by true = knows_branch Equal audit 0 (length code) (code ++ rest) nr a (either_side (a == audit) 0 (length code) (code ++ rest) nr a here beyond)
  by false =
      knows_branch Equal audit 1 0 (jump (length code) ∷ (code ++ rest)) nr a
      (either_side (a == audit) 1 0 (jump (length code) ∷ (code ++ rest)) nr a (λ e. past (jump (length code) ∷ []) (code ++ rest) 0 nr a (here e))
      (λ e. knows_jump (length code) (code ++ rest) nr a (beyond e)))

sections_known : (bad : ℕ) (sections : List Section) (nr : ℕ) → All IsSection sections → IsAllowed (section_for sections architecture) bad nr
    → Knows (flat_map guarded_code sections ++ (answer bad ∷ [])) 0 nr architecture
sections_known bad [] nr fits allowed = subst (λ v. Knows (answer v ∷ []) 0 nr architecture) (sym allowed) (knows_answer [] nr architecture)
sections_known bad (section ∷ sections) nr fits allowed =
    let code = section_code section in
    let jump_over = past_code section.audit (length code) in
    let others = flat_map guarded_code sections in
    let rest = others ++ (answer bad ∷ []) in
    let whole : ((jump_over ++ code) ++ others) ++ (answer bad ∷ []) ≡ jump_over ++ (code ++ rest) =
    append_assoc (jump_over ++ code) others (answer bad ∷ []) ∙ append_assoc jump_over code rest in
    subst (λ insns. Knows insns 0 nr architecture) (sym whole)
    (past_known section.audit code rest nr architecture
    (λ e. section_known section rest nr architecture (All-head IsSection section sections fits) (subst (λ found. IsAllowed found bad nr) (here (eqb-true architecture section.audit e)) allowed))
    (λ e. sections_known bad sections nr (All-tail IsSection section sections fits)
    (subst (λ found. IsAllowed found bad nr) (there (λ same. eqb-false architecture section.audit e (sym same))) allowed))) where
      here : architecture ≡ section.audit → section_for (section ∷ sections) architecture ≡ Some section
      here same = rw (eq-eqb section.audit architecture (sym same)) refl

      there : (section.audit ≡ architecture → ⊥) → section_for (section ∷ sections) architecture ≡ section_for sections architecture
      there apart = rw (ne_eqb section.audit architecture apart) refl

pub sections_are_known : SectionsAreKnown
sections_are_known bad sections nr fits allowed =
    knows_load_architecture (flat_map guarded_code sections ++ (answer bad ∷ [])) nr 0 (sections_known bad sections nr fits allowed)
