-- The reading of lines is the reading of their parts.
use Rattle.std.proofs.Common.{◌≡◌, ◌≤◌, ◌+◌, ◌∙◌, arith, refl, sym, subst, ℕ, zero, suc, List, [], ◌∷◌, Option, Result, Ok, Err, IsTrue, length, inl, inr}
use Rattle.sk_scenario.proofs.Common.{cases_Bool, list_any, is_end, until_end, TextFault, Opening, Filter, Program, Heading, Alone, Opens, heading_of, Names, Says, Part, Single, Block, behind_end, AreParts, ◌>>=◌, checked, Gained, Open, Nothing, Undecided, Calls, started, opened, given, remarked, stepped, finished, reading}
use Rattle.sk_scenario.proofs.Steps.{ok_is, bind_ok, checked-ok, checked-says, filling, kind, reading_closes, reading_never_closes}
use Rattle.sk_scenario.specs.declared.call.Named.TheVariants as named

-- what parts give, where the first line of the first one is line n
unfoldable pub building : Option Names → ℕ → Gained → List Part → Result Gained TextFault
building known n d [] = Ok d
building known n d (Single remark ∷ parts) = remarked n d remark >>= λ next. building known (n + 1) next parts
building known n d (Block opening body ∷ parts) =
    opened n d opening >>= λ start. filling known (n + 1) start.1 body >>= λ block. building known (block.0 + 1) (finished start.0 block.1) parts

opened_kind : (n : ℕ) (d : Gained) (opening : Opening) (next : Gained × Open) → opened n d opening ≡ Ok next → 1 ≤ kind next.1
unfolding opened
opened_kind n d (Filter name) next h =
    let g = bind_ok (given n d name (named.Filter (length d.filters)) (length d.filters)) (λ other. Ok (other, Undecided)) next h in
    let e = ok_is (g.0, Undecided) next g.2 in
    subst (λ (p : Gained × Open). 1 ≤ kind p.1) e (omega arith)
opened_kind n d (Program name owner setuid) next h =
    let g = bind_ok (given n d name (named.Program (length d.programs)) (length d.programs)) (λ other. Ok (other, Calls (record { owner = owner; setuid = setuid; calls = [] }))) next h in
    let e = ok_is (g.0, Calls (record { owner = owner; setuid = setuid; calls = [] })) next g.2 in
    subst (λ (p : Gained × Open). 1 ≤ kind p.1) e (omega arith)

-- a heading that stands alone, and one that opens a block
alone_then : (known : Option Names) (n : ℕ) (r : Result Gained TextFault) (lines : List (List ℕ)) (last : Gained → Result Gained TextFault) → ((d : Gained) → reading known (n + 1) d Nothing lines ≡ last d)
    → ((r >>= λ (next : Gained). let pair : Gained × Open = (next, Nothing) in Ok pair) >>= λ next. reading known (n + 1) next.0 next.1 lines) ≡ (r >>= last)
alone_then known n (Ok d) lines last h = h d
alone_then known n (Err fault) lines last h = refl

block_then : (known : Option Names) (n : ℕ) (r : Result (Gained × Open) TextFault) (lines : List (List ℕ)) (last : ℕ × Open → Gained → Result Gained TextFault)
    → IsTrue (list_any is_end lines) → ((next : Gained × Open) → r ≡ Ok next → 1 ≤ kind next.1)
    → ((n : ℕ) (d : Gained) → reading known n d Nothing (behind_end lines) ≡ last (n, Nothing) d)
    → (r >>= λ next. reading known (n + 1) next.0 next.1 lines)
    ≡ (r >>= λ start. filling known (n + 1) start.1 (until_end lines) >>= λ block. last (block.0 + 1, Nothing) (finished start.0 block.1))
block_then known n (Err fault) lines last any k h = refl
block_then known n (Ok next) lines last any k h =
    reading_closes known (n + 1) next.0 next.1 lines (k next refl) any ∙ filled_then (filling known (n + 1) next.1 (until_end lines))
  where
    filled_then : (f : Result (ℕ × Open) TextFault) → (f >>= λ block. reading known (block.0 + 1) (finished next.0 block.1) Nothing (behind_end lines)) ≡ (f >>= λ block. last (block.0 + 1, Nothing) (finished next.0 block.1))
    filled_then (Ok block) = h (block.0 + 1) (finished next.0 block.1)
    filled_then (Err fault) = refl

pub parts_read : (known : Option Names) (n : ℕ) (d : Gained) (lines : List (List ℕ)) (parts : List Part) → AreParts lines parts → reading known n d Nothing lines ≡ building known n d parts
unfolding reading building stepped started
parts_read known n d [] [] h = refl
parts_read known n d [] (part ∷ parts) h = absurd h
parts_read known n d (line ∷ lines) [] h = absurd h
parts_read known n d (line ∷ lines) (Single remark ∷ parts) h =
    let c = checked-says heading_of n line (Alone remark) h.0 in
    rw c (alone_then known n (remarked n d remark) lines (λ next. building known (n + 1) next parts) (λ next. parts_read known (n + 1) next lines parts h.1))
parts_read known n d (line ∷ lines) (Block opening body ∷ parts) h =
    let c = checked-says heading_of n line (Opens opening) h.0 in
    let same = h.2 in
    rw (c, same) (block_then known n (opened n d opening) lines (λ place next. building known place.0 next parts) h.1 (opened_kind n d opening)
    (λ m next. parts_read known m next (behind_end lines) parts h.3))

-- lines that are read have parts
length-behind_end : (lines : List (List ℕ)) → length (behind_end lines) ≤ length lines
length-behind_end [] = omega arith
length-behind_end (line ∷ lines) =
    let next = length-behind_end lines in
    elim (cases_Bool (is_end line)) [ inl t ↦ rw t (omega arith) | inr f ↦ rw f (omega (arith, next)) ]

abbrev HasParts : List (List ℕ) → Type 0
HasParts lines = (parts : List Part) × AreParts lines parts

module _ (known : Option Names) (n : ℕ) (d final : Gained) (line : List ℕ) (lines : List (List ℕ))
    (shorter : (m : ℕ) (e : Gained) (others : List (List ℕ)) → length others ≤ length lines → reading known m e Nothing others ≡ Ok final → HasParts others) where
  headed_parts : (heading : Heading) → Says heading_of line heading → (started n d heading >>= λ next. reading known (n + 1) next.0 next.1 lines) ≡ Ok final → HasParts (line ∷ lines)
  unfolding started
  headed_parts (Alone remark) said h =
      let more : reading known (n + 1) d Nothing lines ≡ Ok final → HasParts lines = shorter (n + 1) d lines (omega arith) in
      let s = bind_ok (remarked n d remark >>= λ (next : Gained). let pair : Gained × Open = (next, Nothing) in Ok pair) (λ next. reading known (n + 1) next.0 next.1 lines) final h in
      let r = bind_ok (remarked n d remark) (λ (next : Gained). let pair : Gained × Open = (next, Nothing) in Ok pair) s.0 s.1 in
      let e = subst (λ (p : Gained × Open). reading known (n + 1) p.0 p.1 lines ≡ Ok final) (sym (ok_is (r.0, Nothing) s.0 r.2)) s.2 in
      let rest = shorter (n + 1) r.0 lines (omega arith) e in
      (Single remark ∷ rest.0, (said, rest.1))
  headed_parts (Opens opening) said h =
      let s = bind_ok (opened n d opening) (λ next. reading known (n + 1) next.0 next.1 lines) final h in
      let k = opened_kind n d opening s.0 s.1 in
      elim (cases_Bool (list_any is_end lines)) [
        | inl any ↦
            let e = sym (reading_closes known (n + 1) s.0.0 s.0.1 lines k any) ∙ s.2 in
            let f = bind_ok (filling known (n + 1) s.0.1 (until_end lines)) (λ next. reading known (next.0 + 1) (finished s.0.0 next.1) Nothing (behind_end lines)) final e in
            let rest = shorter (f.0.0 + 1) (finished s.0.0 f.0.1) (behind_end lines) (length-behind_end lines) f.2 in
            (Block opening (until_end lines) ∷ rest.0, (said, any, refl, rest.1))
        | inr none ↦ absurd (reading_never_closes known (n + 1) s.0.0 s.0.1 lines final k none s.2)
      ]

read_parts : (most : ℕ) (known : Option Names) (n : ℕ) (d final : Gained) (lines : List (List ℕ)) → length lines ≤ most → reading known n d Nothing lines ≡ Ok final → HasParts lines
unfolding reading stepped
read_parts most known n d final [] few h = ([], tt)
read_parts zero known n d final (line ∷ lines) few h = absurd (omega (arith, few))
read_parts (suc most) known n d final (line ∷ lines) few h =
    let s = bind_ok (checked heading_of n line >>= λ heading. started n d heading) (λ next. reading known (n + 1) next.0 next.1 lines) final h in
    let c = bind_ok (checked heading_of n line) (λ heading. started n d heading) s.0 s.1 in
    let started_is = c.2 in
    headed_parts known n d final line lines (λ m e others less r. read_parts most known m e final others (omega (arith, few, less)) r) c.0 (checked-ok heading_of n line c.0 c.1) (rw started_is s.2)

pub reading_parts : (known : Option Names) (d final : Gained) (lines : List (List ℕ)) → reading known 1 d Nothing lines ≡ Ok final → HasParts lines
reading_parts known d final lines h = read_parts (length lines) known 1 d final lines (omega arith) h
