use Rattle.std.proofs.Common.{◌≡◌, ◌+◌, length, take, ap, sym, ◌∙◌, arith, true, false, Some}
use Rattle.std.specs.Option.{option_map}
use Rattle.sk_profile_json.specs.Fields.{is_written}
use Rattle.sk_profile_json.specs.Lines.{place_of, written}
use Rattle.sk_profile_json.specs.Slips.{line_of}
use Rattle.sk_profile_json.proofs.Places.{closed_place, is_opening, looked, looked_whole, no_place, opening_byte, other_place, reads_so, some_left, this_place}
use Rattle.sk_profile_json.proofs.line.line_as.Goals as goal
use Rattle.sk_profile_json.proofs.line.line_as.Goals.{then-opens+else-left-eq0+in_ok-is_written+else-branch, else-opens}

pub loop-place-init : goal.loop-place-init
loop-place-init c = looked_whole c.args.wanted.now c.args.text.now

pub range_from-requires : goal.range_from-requires
range_from-requires c =
    let brace = opening_byte c.args.text.now c.loop-place.place (sym c.opens.ensures.opens ∙ c.if-opens.true) in
    λ some. ((omega arith), (λ within high. omega arith))

pub returns-then-branch : goal.returns-then-branch
returns-then-branch c =
    let text = c.args.text.now in
    let passes : reads_so c.args.wanted.now text c.loop-place.place ≡ true =
    ap (λ behind. is_written c.args.wanted.now (written behind)) (sym c.range_from.ensures.value) ∙ sym c.in_ok-is_written.ensures.written ∙ c.if-branch.true in
    let here =
    this_place (is_opening text) (reads_so c.args.wanted.now text) c.loop-place.left c.loop-place.place (length text) c.loop-place-test.true
    (sym c.opens.ensures.opens ∙ c.if-opens.true) (some_left c.loop-place.left c.if-left-eq0.false) passes in
    let found : place_of c.args.wanted.now text ≡ Some c.loop-place.place = sym c.loop-place.invariant ∙ here in
    record {
      line =
          ap (λ line. Some line) (c.line_of.ensures.line ∙ ap (λ bytes. line_of (take c.loop-place.place bytes)) c.as_bytes.ensures.value)
          ∙ sym (ap (option_map (λ place. line_of (take place text))) found);
    }

pub loop-place-preserved : goal.loop-place-preserved
loop-place-preserved c =
    let text = c.args.text.now in
    let place = c.loop-place.place in
    let opening = is_opening text in
    let passes = reads_so c.args.wanted.now text in elim c.if-opens.branch [
      | then-opens+else-left-eq0+in_ok-is_written+else-branch w ↦
          let fails : reads_so c.args.wanted.now text place ≡ false =
          ap (λ behind. is_written c.args.wanted.now (written behind)) (sym w.range_from.ensures.value) ∙ sym w.in_ok-is_written.ensures.written ∙ w.if-branch.false in
          ap (λ left. looked opening passes left (place + 1) (length text)) w.left-is
          ∙ other_place opening passes c.loop-place.left place (length text) c.loop-place-test.true (sym c.opens.ensures.opens ∙ w.if-opens.true)
          (some_left c.loop-place.left w.if-left-eq0.false) fails
          ∙ c.loop-place.invariant
      | else-opens w ↦
          ap (λ left. looked opening passes left (place + 1) (length text)) w.left-is
          ∙ closed_place opening passes c.loop-place.left place (length text) c.loop-place-test.true (sym c.opens.ensures.opens ∙ w.if-opens.false)
          ∙ c.loop-place.invariant
    ]

pub returns : goal.returns
returns c =
    let none =
    no_place (is_opening c.args.text.now) (reads_so c.args.wanted.now c.args.text.now) c.loop-place.left c.loop-place.place (length c.args.text.now)
    c.loop-place-test.false in
    record { line = sym (ap (option_map (λ place. line_of (take place c.args.text.now))) (sym c.loop-place.invariant ∙ none)) }
