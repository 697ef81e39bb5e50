-- A report is its next turn and the report from there; and how far it is out while the engine runs.
use Rattle.std.proofs.Common.{◌≡◌, ℕ, suc, ◌+◌, ◌-◌, ◌<◌, ◌≤◌, List, [], ◌∷◌, ◌++◌, length, take, map, Option, Result, Ok, Err, refl, sym, ap, subst, ◌∙◌, arith, append-nil, append_assoc}
use Rattle.std.specs.List.{concat}
use Rattle.std.specs.Io.KnownBytes.{Appends}
use Rattle.std.proofs.KnownBytes.{Appends-nil, Appends-trans}
use Rattle.std.proofs.Math.Logic.{⊎_elim}
use Rattle.std.proofs.Math.Seq.{take-append_seam}
use Rattle.std.proofs.lemmas.Bool.{cases_lt, lt-ltb, le-ltb}
use Rattle.std.proofs.lemmas.List.{length-append}
use Rattle.sk_text.specs.Writing.{AppendsBeginning}
use Rattle.sk_scenario.specs.Scenario.{Setting}
use Rattle.sk_machine.specs.declared.event.Event.{Event}
use Rattle.sk_machine.specs.declared.answer.Answer.{Answer}
use Rattle.sk_run.specs.declared.turn.End.{End}
use Rattle.sk_run.specs.declared.turn.ReportLine.{ReportLine}
use Rattle.sk_run.specs.declared.turn.ReportLine.TheVariants as turn
use Rattle.sk_run.specs.Scheduling.{Scheduled, opened, runner_of, turn_by, after_turn_by, turn_for, turn_of, after_turn_for, after_turn}
use Rattle.sk_run.specs.Report.{Report, ended, onto, all_used, report_from, report_of, line, text_of, turns_text}

-- ---- a report is its next turn, and the report from there

-- the report from here on
abbrev pub rest_of : Setting → Scheduled → Report
rest_of setting s = report_from (setting.turns - s.used) setting s

-- this turn first, if it is not the end
abbrev pub by_turn : ReportLine → Report → Report
by_turn (turn.End end) rest = ended end
by_turn (turn.Turn n event answer) rest = onto (turn.Turn n event answer) rest

-- the report where so many turns are left, by whose turn it is
abbrev pub by_runner : Setting → Scheduled → ℕ → Result ℕ End → Report
by_runner setting s left r =
    elim r [ Ok pid ↦ onto (turn_by setting s pid) (report_from left setting (after_turn_by setting s pid)) | Err end ↦ ended end ]

goes_on : (setting : Setting) (s : Scheduled) (left : ℕ) (r : Result ℕ End) → s.used < setting.turns → setting.turns - (s.used + 1) ≡ left
    → by_runner setting s left r ≡ by_turn (turn_for setting s r) (rest_of setting (after_turn_for setting s r))
goes_on setting s left (Err end) lt is = refl
goes_on setting s left (Ok pid) lt is = rw (lt-ltb s.used setting.turns lt, is) refl

stops : (setting : Setting) (s : Scheduled) (r : Result ℕ End) → setting.turns ≤ s.used
    → ended (all_used r) ≡ by_turn (turn_for setting s r) (rest_of setting (after_turn_for setting s r))
stops setting s (Err end) le = refl
stops setting s (Ok pid) le = rw (le-ltb s.used setting.turns le) refl

next_left : (setting : Setting) (s : Scheduled) → s.used < setting.turns → rest_of setting s ≡ by_turn (turn_of setting s) (rest_of setting (after_turn setting s))
unfolding turn_of after_turn report_from
next_left setting s lt =
    let left : setting.turns - s.used ≡ suc (setting.turns - (s.used + 1)) = omega arith in
    ap (λ n. report_from n setting s) left ∙ goes_on setting s (setting.turns - (s.used + 1)) (runner_of s) lt refl

next_none : (setting : Setting) (s : Scheduled) → setting.turns ≤ s.used → rest_of setting s ≡ by_turn (turn_of setting s) (rest_of setting (after_turn setting s))
unfolding turn_of after_turn report_from
next_none setting s le =
    let none : setting.turns - s.used ≡ 0 = omega arith in
    ap (λ n. report_from n setting s) none ∙ stops setting s (runner_of s) le

pub next : (setting : Setting) (s : Scheduled) → rest_of setting s ≡ by_turn (turn_of setting s) (rest_of setting (after_turn setting s))
next setting s = ⊎_elim (next_left setting s) (next_none setting s) (cases_lt s.used setting.turns)

-- a line uses a turn
pub record Used (setting : Setting) (s next : Scheduled) (n : ℕ) : Type 0 where
  pub left : s.used < setting.turns
  pub number : n ≡ s.used + 1
  pub used : next.used ≡ s.used + 1

uses_by : (setting : Setting) (s : Scheduled) (r : Result ℕ End) (n : ℕ) (event : Event) (answer : Answer) → turn_for setting s r ≡ turn.Turn n event answer → Used setting s (after_turn_for setting s r) n
uses_by setting s (Err end) n event answer e = cc
uses_by setting s (Ok pid) n event answer e =
    ⊎_elim
    (λ lt.
    let yes = lt-ltb s.used setting.turns lt in
    let line = rw yes at e in
    let number : n ≡ s.used + 1 = cc in
    rw yes (record { left = lt; number = number; used = refl }))
    (λ le.
    let line = rw (le-ltb s.used setting.turns le) at e in
    cc)
    (cases_lt s.used setting.turns)

pub uses : (setting : Setting) (s : Scheduled) (n : ℕ) (event : Event) (answer : Answer) → turn_of setting s ≡ turn.Turn n event answer → Used setting s (after_turn setting s) n
unfolding turn_of after_turn
uses setting s n event answer e = uses_by setting s (runner_of s) n event answer e

-- ---- texts

lines_join : (xs ys : List ReportLine) → concat (map line (xs ++ ys)) ≡ concat (map line xs) ++ concat (map line ys)
lines_join [] ys = refl
lines_join (x ∷ xs) ys = ap (λ t. line x ++ t) (lines_join xs ys) ∙ sym (append_assoc (line x) (concat (map line xs)) (concat (map line ys)))

-- one more line
lines_more : (xs : List ReportLine) (t : ReportLine) → turns_text (xs ++ t ∷ []) ≡ turns_text xs ++ line t
lines_more xs t = lines_join xs (t ∷ []) ∙ ap (λ l. turns_text xs ++ l) (append-nil (line t))

-- what is behind a turn's line
abbrev pub behind : ReportLine → Report → List ℕ
behind (turn.End end) rest = []
behind (turn.Turn n event answer) rest = text_of rest

text_by_turn : (t : ReportLine) (rest : Report) → text_of (by_turn t rest) ≡ line t ++ behind t rest
text_by_turn (turn.End end) rest = refl
text_by_turn (turn.Turn n event answer) rest = refl

-- ---- how far it is

-- the lines of these turns are out, and the rest is to come
pub record Underway (report : Report) (setting : Setting) (s : Scheduled) (old now : Option (List ℕ)) : Type 0 where
  pub out : List ReportLine
  pub turns : report.turns ≡ out ++ (rest_of setting s).turns
  pub end : report.end ≡ (rest_of setting s).end
  pub count : length out ≡ s.used
  pub sent : Appends old now (turns_text out)

pub start : (setting : Setting) (s : Scheduled) (now : Option (List ℕ)) → s ≡ opened → Underway (report_of setting) setting s now now
start setting s now e =
    let none : setting.turns - 0 ≡ setting.turns = omega arith in
    let whole : rest_of setting opened ≡ report_of setting = ap (λ n. report_from n setting opened) none in
    subst (λ s. Underway (report_of setting) setting s now now) (sym e) (record {
      out = [];
      turns = ap (λ r. r.turns) (sym whole);
      end = ap (λ r. r.end) (sym whole);
      count = refl;
      sent = Appends-nil now;
    })

text_underway : (report : Report) (setting : Setting) (s : Scheduled) (old now : Option (List ℕ)) (h : Underway report setting s old now) → text_of report ≡ turns_text h.out ++ text_of (rest_of setting s)
text_underway report setting s old now h =
    let all : report.turns ++ turn.End report.end ∷ [] ≡ h.out ++ ((rest_of setting s).turns ++ turn.End (rest_of setting s).end ∷ []) =
    rw (h.turns, h.end) (append_assoc h.out (rest_of setting s).turns (turn.End (rest_of setting s).end ∷ []))
    in
    ap (λ ts. concat (map line ts)) all ∙ lines_join h.out ((rest_of setting s).turns ++ turn.End (rest_of setting s).end ∷ [])

text_next : (report : Report) (setting : Setting) (s : Scheduled) (old now : Option (List ℕ)) (t : ReportLine) (h : Underway report setting s old now) → turn_of setting s ≡ t
    → text_of report ≡ turns_text h.out ++ (line t ++ behind t (rest_of setting (after_turn setting s)))
text_next report setting s old now t h is =
    text_underway report setting s old now h
    ∙ ap (λ r. turns_text h.out ++ text_of r) (next setting s ∙ ap (λ t. by_turn t (rest_of setting (after_turn setting s))) is)
    ∙ ap (λ l. turns_text h.out ++ l) (text_by_turn t (rest_of setting (after_turn setting s)))

-- a turn's line goes out
pub goes : (report : Report) (setting : Setting) (s : Scheduled) (old now new : Option (List ℕ)) (n : ℕ) (event : Event) (answer : Answer)
    → Underway report setting s old now → turn_of setting s ≡ turn.Turn n event answer → Appends now new (line (turn.Turn n event answer)) → Underway report setting (after_turn setting s) old new
goes report setting s old now new n event answer h is sent =
    let t : ReportLine = turn.Turn n event answer in
    let after : Report = rest_of setting (after_turn setting s) in
    let from : rest_of setting s ≡ onto t after = next setting s ∙ ap (λ t. by_turn t after) is in
    record {
      out = h.out ++ t ∷ [];
      turns = h.turns ∙ ap (λ r. h.out ++ r.turns) from ∙ sym (append_assoc h.out (t ∷ []) after.turns);
      end = h.end ∙ ap (λ r. r.end) from;
      count = length-append h.out (t ∷ []) ∙ ap (λ k. k + 1) h.count ∙ sym (uses setting s n event answer is).used;
      sent = subst (λ l. Appends old new l) (sym (lines_more h.out t)) (Appends-trans old now new (turns_text h.out) (line t) h.sent sent);
    }

-- the end's line goes out
pub ends : (report : Report) (setting : Setting) (s : Scheduled) (old now new : Option (List ℕ)) (end : End)
    → Underway report setting s old now → turn_of setting s ≡ turn.End end → Appends now new (line (turn.End end)) → (end ≡ report.end) × Appends old new (text_of report)
ends report setting s old now new end h is sent =
    let from : rest_of setting s ≡ ended end = next setting s ∙ ap (λ t. by_turn t (rest_of setting (after_turn setting s))) is in
    let text : text_of report ≡ turns_text h.out ++ line (turn.End end) =
    text_next report setting s old now (turn.End end) h is ∙ ap (λ l. turns_text h.out ++ l) (append-nil (line (turn.End end)))
    in
    (sym (h.end ∙ ap (λ r. r.end) from), subst (λ l. Appends old new l) (sym text) (Appends-trans old now new (turns_text h.out) (line (turn.End end)) h.sent sent))

-- a beginning of a turn's line goes out
pub begins : (report : Report) (setting : Setting) (s : Scheduled) (old now new : Option (List ℕ)) (t : ReportLine)
    → Underway report setting s old now → turn_of setting s ≡ t → AppendsBeginning now new (line t) → AppendsBeginning old new (text_of report)
begins report setting s old now new t h is sent =
    let more : List ℕ = behind t (rest_of setting (after_turn setting s)) in
    record {
      begun = turns_text h.out ++ sent.begun;
      left = sent.left ++ more;
      parts =
          text_next report setting s old now t h is
          ∙ ap (λ l. turns_text h.out ++ (l ++ more)) sent.parts
          ∙ ap (λ l. turns_text h.out ++ l) (append_assoc sent.begun sent.left more)
          ∙ sym (append_assoc (turns_text h.out) sent.begun (sent.left ++ more));
      appended = Appends-trans old now new (turns_text h.out) sent.begun h.sent sent.appended;
    }

-- no more goes out
pub rests : (report : Report) (setting : Setting) (s : Scheduled) (old now : Option (List ℕ)) (done : ℕ)
    → Underway report setting s old now → done ≡ s.used → (done ≤ length report.turns) × Appends old now (turns_text (take done report.turns))
rests report setting s old now done h is =
    let out : length h.out ≡ done = h.count ∙ sym is in
    let all : length report.turns ≡ length h.out + length (rest_of setting s).turns = ap length h.turns ∙ length-append h.out (rest_of setting s).turns in
    let first : take done report.turns ≡ h.out =
    ap (λ k. take k report.turns) (sym out) ∙ ap (take (length h.out)) h.turns ∙ take-append_seam h.out (rest_of setting s).turns
    in
    let within : done ≤ length report.turns = omega arith in
    (within, subst (λ ts. Appends old now (turns_text ts)) (sym first) h.sent)

-- ---- the same of a text that is a line

pub begins_text : (report : Report) (setting : Setting) (s : Scheduled) (old now new : Option (List ℕ)) (t : ReportLine) (bytes : List ℕ)
    → Underway report setting s old now → t ≡ turn_of setting s → bytes ≡ line t → AppendsBeginning now new bytes → AppendsBeginning old new (text_of report)
begins_text report setting s old now new t bytes h is text sent =
    begins report setting s old now new t h (sym is) (subst (λ l. AppendsBeginning now new l) text sent)

pub ends_text : (report : Report) (setting : Setting) (s : Scheduled) (old now new : Option (List ℕ)) (t : ReportLine) (end : End) (bytes : List ℕ)
    → Underway report setting s old now → t ≡ turn_of setting s → t ≡ turn.End end → bytes ≡ line t → Appends now new bytes → (end ≡ report.end) × Appends old new (text_of report)
ends_text report setting s old now new t end bytes h is found text sent =
    ends report setting s old now new end h (sym is ∙ found) (subst (λ l. Appends now new l) (text ∙ ap line found) sent)

pub goes_text : (report : Report) (setting setting' : Setting) (s s' : Scheduled) (old now new : Option (List ℕ)) (t : ReportLine) (n : ℕ) (event : Event) (answer : Answer) (bytes : List ℕ)
    → Underway report setting s old now → t ≡ turn_of setting s → t ≡ turn.Turn n event answer → s' ≡ after_turn setting s → setting' ≡ setting → bytes ≡ line t → Appends now new bytes
    → Underway report setting' s' old new
goes_text report setting setting' s s' old now new t n event answer bytes h is found after same text sent =
    subst (λ x. Underway report x s' old new) (sym same)
    (subst (λ x. Underway report setting x old new) (sym after)
    (goes report setting s old now new n event answer h (sym is ∙ found) (subst (λ l. Appends now new l) (text ∙ ap line found) sent)))

-- the number of a turn, and the turns that are left, which become fewer
pub record Fewer (setting setting' : Setting) (s s' : Scheduled) (n : ℕ) : Type 0 where
  pub number : n ≡ s'.used
  pub fewer : setting'.turns - s'.used < setting.turns - s.used

pub fewer : (setting setting' : Setting) (s s' : Scheduled) (t : ReportLine) (n : ℕ) (event : Event) (answer : Answer)
    → t ≡ turn_of setting s → t ≡ turn.Turn n event answer → s' ≡ after_turn setting s → setting' ≡ setting → Fewer setting setting' s s' n
fewer setting setting' s s' t n event answer is found after same =
    let u : Used setting s (after_turn setting s) n = uses setting s n event answer (sym is ∙ found) in
    let used : s'.used ≡ s.used + 1 = ap (λ x. x.used) after ∙ u.used in
    let turns : setting'.turns ≡ setting.turns = ap (λ x. x.turns) same in
    let left : s.used < setting.turns = u.left in
    record { number = u.number ∙ sym used; fewer = omega (arith, used, turns, left) }
