-- What a fork answers and leaves, by whether there is room.
use Rattle.std.proofs.Common.{◌≡◌, ◌∙◌, ◌<◌, ◌≤◌, ℕ, ap, sym, cond, ◌&&◌, nat_lt, nat_le, IsTrue, Some, Ok, Err}
use Rattle.sk_world.specs.Common.{is_some, option_map_or, Eagain, LAST_PID, PROCESSES, Proc, count, World, at, inserted, IsWorld, is_within, has_links_within, fresh_of, fork_answer, forked, has_room, child_of}
use Rattle.sk_world.proofs.Common.{lt-ltb, le-ltb, le-leb, and_parts, and_from}

-- where there is no room
pub full_answer : (w : World) (n : ℕ) → n ≡ count w.procs → PROCESSES ≤ n → Err Eagain ≡ fork_answer w
full_answer w n is full = sym (ap (λ b. cond b (Ok (fresh_of w)) (Err Eagain)) (ap (λ n. nat_lt n PROCESSES) (sym is) ∙ le-ltb n PROCESSES full))

pub room : (w : World) (n : ℕ) → n ≡ count w.procs → n < PROCESSES → IsTrue (has_room w)
room w n is below = ap (λ n. nat_lt n PROCESSES) (sym is) ∙ lt-ltb n PROCESSES below

pub room_answer : (w : World) → IsTrue (has_room w) → Ok (fresh_of w) ≡ fork_answer w
room_answer w room = sym (ap (λ b. cond b (Ok (fresh_of w)) (Err Eagain)) room)

-- where there is room, the child of the process that is there is put in
pub room_forked : (w : World) (caller : ℕ) (p : Proc) → at w caller ≡ Some p → IsTrue (has_room w) → inserted w (fresh_of w) (child_of caller p) ≡ forked w caller
room_forked w caller p there room =
    sym (ap (λ b. cond b (option_map_or (λ p. inserted w (fresh_of w) (child_of caller p)) (at w caller) w) w) room
    ∙ ap (λ o. option_map_or (λ p. inserted w (fresh_of w) (child_of caller p)) o w) there)

-- links with a new parent
pub within_by : (parent old group session : ℕ) → parent ≤ LAST_PID
    → IsTrue (nat_le old LAST_PID && nat_le group LAST_PID && nat_le session LAST_PID)
    → IsTrue (nat_le parent LAST_PID && nat_le group LAST_PID && nat_le session LAST_PID)
within_by parent old group session below h =
    let parts = and_parts _ _ h in
    and_from _ _ (and_from _ _ (le-leb parent LAST_PID below) (and_parts _ _ parts.0).1) parts.1

pub child_within : (w : World) (caller : ℕ) (p : Proc) → IsWorld w → at w caller ≡ Some p → IsTrue (is_within (child_of caller p).links)
child_within w caller p rules there =
    let links : IsTrue (is_within p.links) = ap has_links_within (sym there) ∙ rules.links caller in
    within_by caller p.links.parent p.links.group p.links.session (rules.pids caller (ap is_some there)).1 links
