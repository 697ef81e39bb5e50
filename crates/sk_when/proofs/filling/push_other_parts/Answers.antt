use Rattle.std.proofs.Common.{rules, ℕ, ◌≡◌, ◌++◌, ◌-◌, ◌∙◌, List, length, string_bytes, ap}
use Rattle.sk_when.specs.Filling.{break_text, filled, room_of_line}
use Rattle.sk_when.proofs.Filled.{IsCutOff, next_here, next_below}
use Rattle.sk_when.proofs.filling.push_other_parts.Goals as goal
use Rattle.sk_when.proofs.filling.push_other_parts.Goals.{then-part-room+in_ok-push_str, else-part-room}

-- the text and the room as they are known
moved : (text text' others : List ℕ) (room room' : ℕ) → text ≡ text' → room ≡ room' → text ++ filled room 0 others ≡ text' ++ filled room' 0 others
moved text text' others room room' texts rooms = λ i. texts i ++ filled (rooms i) 0 others

pub loop-rest-preserved : goal.loop-rest-preserved
loop-rest-preserved c =
    let text = string_bytes c.loop-rest.text in
    let part = c.first_part.result.0.now in
    let others = c.first_part.result.1.now in
    let cut : IsCutOff c.loop-rest.rest.now part others = record { first = c.first_part.ensures.part; behind = c.first_part.ensures.others; long = c.first_part.ensures.length } in (
      search rules,
      elim c.if-part-room.branch [
        | then-part-room+in_ok-push_str w ↦
            moved _ ((text ++ break_text) ++ part) others _ (room_of_line - length part)
            (c.in_ok-push_str-2.ensures.bytes ∙ ap (λ it. string_bytes it ++ part) w.text-is ∙ ap (λ it. it ++ part) w.in_ok-push_str.ensures.bytes)
            (c.saturating_sub-room.ensures ∙ ap (λ k. k - length part) w.room-is)
            ∙ next_below text c.loop-rest.rest.now part others c.loop-rest.room cut w.if-part-room.true
            ∙ c.loop-rest.invariant.1
        | else-part-room w ↦
            moved _ (text ++ part) others _ (c.loop-rest.room - length part)
            (c.in_ok-push_str-2.ensures.bytes ∙ ap (λ it. string_bytes it ++ part) w.text-is)
            (c.saturating_sub-room.ensures ∙ ap (λ k. k - length part) w.room-is)
            ∙ next_here text c.loop-rest.rest.now part others c.loop-rest.room cut w.if-part-room.false
            ∙ c.loop-rest.invariant.1
      ],
    )
