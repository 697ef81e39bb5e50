-- The next line of a process.
use Rattle.std.proofs.Common.{◌≡◌, ◌<◌, ◌≤◌, ◌-◌, ◌∙◌, ap, arith, refl, sym, ℕ, zero, suc, List, [], ◌∷◌, true, false, Option, Some, None}
use Rattle.sk_replay.specs.Since.{is_process, next_of, process_of}

-- it is the first that is left
pub next_here : (process room : ℕ) (line : List ℕ) (lines rest : List (List ℕ)) (total : Option (List ℕ))
    → lines ≡ line ∷ rest → 0 < room → is_process process (process_of line) ≡ true → next_of room process lines ≡ total → Some line ≡ total
next_here process zero line lines rest total cut some t so_far = absurd (omega (arith, some))
next_here process (suc room) line lines rest total cut some t so_far = sym (sym so_far ∙ ap (next_of (suc room) process) cut ∙ rw t refl)

-- it is behind that
pub next_behind : (process room : ℕ) (line : List ℕ) (lines rest : List (List ℕ)) (total : Option (List ℕ))
    → lines ≡ line ∷ rest → 0 < room → is_process process (process_of line) ≡ false → next_of room process lines ≡ total → next_of (room - 1) process rest ≡ total
next_behind process zero line lines rest total cut some f so_far = absurd (omega (arith, some))
next_behind process (suc room) line lines rest total cut some f so_far =
    let less : suc room - 1 ≡ room = omega arith in
    ap (λ n. next_of n process rest) less ∙ sym (sym so_far ∙ ap (next_of (suc room) process) cut ∙ rw f refl)

-- no line is left
pub none_behind : (process room : ℕ) (lines : List (List ℕ)) (total : Option (List ℕ)) → lines ≡ [] → next_of room process lines ≡ total → None ≡ total
none_behind process zero lines total none so_far = so_far
none_behind process (suc room) lines total none so_far = sym (sym so_far ∙ ap (next_of (suc room) process) none)

-- no more are looked at
pub no_room : (process room : ℕ) (lines : List (List ℕ)) (total : Option (List ℕ)) → room ≤ 0 → next_of room process lines ≡ total → None ≡ total
no_room process zero lines total none so_far = so_far
no_room process (suc room) lines total none so_far = absurd (omega (arith, none))
