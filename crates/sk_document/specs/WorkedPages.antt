-- Worked parts of pages: names that could be markup, groups of which two are empty, and a change of each kind.
use Rattle.std.specs.Prelude.{ℕ, ◌≡◌, ◌++◌, List, [], ◌∷◌, codes, true, false, Some}
use Rattle.sk_survey.specs.Answers.{answers_of}
use Rattle.sk_terms.specs.declared.lines.Line.{Line}
use Rattle.sk_when.specs.declared.piece.Calls.TheVariants.{Every}
use Rattle.sk_when.specs.declared.piece.Outcome.TheVariants.{Apart}
use Rattle.sk_when.specs.declared.piece.Part.{Part}
use Rattle.sk_when.specs.declared.piece.Piece.{Piece}
use Rattle.sk_when.specs.declared.row.ConditionalRow.{ConditionalRow}
use Rattle.sk_document.specs.declared.group.Group.TheVariants.{Refused, Conditional, Allowed}
use Rattle.sk_document.specs.Groups.{group_of, may_perform}
use Rattle.sk_document.specs.Html.{element, escaped}
use Rattle.sk_document.specs.PageChanges.{changes}
use Rattle.sk_document.specs.PageRows.{groups}
use Rattle.sk_document.specs.WorkedDocuments.{HasParts, names}
use Rattle.sk_document.specs.WorkedValues.{clone}

-- ---- texts

-- each byte that could be markup is a reference, and all others stand as they are
pub record TextsWork : Type 0 where
  pub markup : escaped (codes "<b>&\"x'.hex") ≡ codes "&lt;b&gt;&amp;&quot;x&#39;.hex"
  pub element : element (codes "title") (escaped (codes "a & b")) ≡ codes "<title>a &amp; b</title>\n"

-- ---- groups

-- the actions of seccomp(2) by which a call may come to be performed: log and allow. A listener, a tracer or a handler of SIGSYS
-- is asked by others
pub record ActionsWork : Type 0 where
  pub allow : may_perform (Some 0x7fff0000) ≡ true
  pub log : may_perform (Some 0x7ffc0000) ≡ true
  pub trace : may_perform (Some 0x7ff00000) ≡ false
  pub user_notif : may_perform (Some 0x7fc00000) ≡ false
  pub errno : may_perform (Some 0x00050001) ≡ false
  pub trap : may_perform (Some 0x00030000) ≡ false
  pub kill_thread : may_perform (Some 0) ≡ false
  pub kill_process : may_perform (Some 0x80000000) ≡ false

-- a row has these lines, and this verdict else
pub record Ends (its : List Line) (value : ℕ) (told : ConditionalRow) : Type 0 where
  pub lines : told.lines.items ≡ its
  pub otherwise : told.otherwise ≡ Some value

-- one verdict that refuses or allows; an error under a condition and allow else, and the other way round; and two errors
pub record GroupsWork : Type 0 where
  pub refused : (told : ConditionalRow) → Ends [] 0x00050001 told → group_of told ≡ Refused
  pub allowed : (told : ConditionalRow) → Ends [] 0x7fff0000 told → group_of told ≡ Allowed
  pub else_allowed : (line : Line) → line.value ≡ Some 0x00050001
      → (told : ConditionalRow) → Ends (line ∷ []) 0x7fff0000 told → group_of told ≡ Conditional
  pub else_refused : (line : Line) → line.value ≡ Some 0x7fff0000
      → (told : ConditionalRow) → Ends (line ∷ []) 0x00050001 told → group_of told ≡ Conditional
  pub errors : (line : Line) → line.value ≡ Some 0x00050026
      → (told : ConditionalRow) → Ends (line ∷ []) 0x00050001 told → group_of told ≡ Refused

-- getpid(2) is refused
pub record IsRefusedGetpid (told : ConditionalRow) : Type 0 where
  pub first : told.row.first ≡ 39
  pub last : told.row.last ≡ 39
  pub answers : answers_of told.row.answers ≡ Some (0x00050001 ∷ [])
  pub lines : told.lines.items ≡ []
  pub otherwise : told.otherwise ≡ Some 0x00050001

-- the groups of this row alone
abbrev pub groups_written : List ℕ
groups_written =
    codes "<section aria-labelledby=\"refused\"><h2 id=\"refused\">Refused: 1</h2>\n"
    ++ (codes "<table><caption>Whatever their arguments are, the filters let none of these calls through</caption>\n"
    ++ (codes "<thead><tr><th scope=\"col\">Call</th>\n<th scope=\"col\">Verdict</th>\n</tr>\n</thead>\n"
    ++ (codes "<tbody><tr id=\"call-39\"><th scope=\"row\">39 getpid</th>\n<td><b>errno/1 EPERM</b>\n</td>\n</tr>\n</tbody>\n</table>\n"
    ++ (codes "</section>\n<section aria-labelledby=\"conditional\"><h2 id=\"conditional\">Under conditions: 0</h2>\n<p>None.</p>\n"
    ++ codes "</section>\n<section aria-labelledby=\"allowed\"><h2 id=\"allowed\">Allowed: 0</h2>\n<p>None.</p>\n</section>\n"))))

abbrev pub RowsWork : Type 0
RowsWork = (told : ConditionalRow) → IsRefusedGetpid told → groups names (told ∷ []) ≡ groups_written

-- ---- changes

-- clone(2) gets another verdict
abbrev pub change : ℕ → ℕ → Part
change old new = record { calls = Every; outcome = Apart (record { old = old; new = new }) clone }

-- a looser one, a stricter one, and another error
abbrev pub three_changes : List Part
three_changes = change 0x00050001 0x7fff0000 ∷ change 0x7fff0000 0x00050001 ∷ change 0x00050001 0x00050016 ∷ []

-- each stands below its kind
abbrev pub changes_written : List ℕ
changes_written =
    codes "<section aria-labelledby=\"looser\"><h2 id=\"looser\">Looser: 1</h2>\n"
    ++ (codes "<table><caption>The new verdict is less strict than the old one</caption>\n<thead><tr><th scope=\"col\">Call</th>\n"
    ++ (codes "<th scope=\"col\">Old verdict</th>\n<th scope=\"col\">New verdict</th>\n"
    ++ (codes "<th scope=\"col\">Condition, and a call that meets it</th>\n</tr>\n</thead>\n"
    ++ (codes "<tbody id=\"looser-56\"><tr><th scope=\"row\">56 clone</th>\n<td><b>errno/1 EPERM</b>\n</td>\n<td><b>allow</b>\n</td>\n"
    ++ (codes "<td>every call<p>such as <code>syscall(SYS_clone, 0x10000011, 0x0, 0x0, 0xffffffffffffffff, 0x0, 0x1)</code>\n"
    ++ (codes "</p>\n</td>\n</tr>\n</tbody>\n</table>\n</section>\n"
    ++ (codes "<section aria-labelledby=\"stricter\"><h2 id=\"stricter\">Stricter: 1</h2>\n"
    ++ (codes "<table><caption>The new verdict is stricter than the old one</caption>\n<thead><tr><th scope=\"col\">Call</th>\n"
    ++ (codes "<th scope=\"col\">Old verdict</th>\n<th scope=\"col\">New verdict</th>\n"
    ++ (codes "<th scope=\"col\">Condition, and a call that meets it</th>\n</tr>\n</thead>\n"
    ++ (codes "<tbody id=\"stricter-56\"><tr><th scope=\"row\">56 clone</th>\n<td><b>allow</b>\n</td>\n<td><b>errno/1 EPERM</b>\n"
    ++ (codes "</td>\n"
    ++ (codes "<td>every call<p>such as <code>syscall(SYS_clone, 0x10000011, 0x0, 0x0, 0xffffffffffffffff, 0x0, 0x1)</code>\n"
    ++ (codes "</p>\n</td>\n</tr>\n</tbody>\n</table>\n</section>\n"
    ++ (codes "<section aria-labelledby=\"other\"><h2 id=\"other\">Other changes: 1</h2>\n"
    ++ (codes "<table><caption>Each verdict is as strict as the other</caption>\n<thead><tr><th scope=\"col\">Call</th>\n"
    ++ (codes "<th scope=\"col\">Old verdict</th>\n<th scope=\"col\">New verdict</th>\n"
    ++ (codes "<th scope=\"col\">Condition, and a call that meets it</th>\n</tr>\n</thead>\n"
    ++ (codes "<tbody id=\"other-56\"><tr><th scope=\"row\">56 clone</th>\n<td><b>errno/1 EPERM</b>\n</td>\n"
    ++ (codes "<td><b>errno/22 EINVAL</b>\n</td>\n"
    ++ (codes "<td>every call<p>such as <code>syscall(SYS_clone, 0x10000011, 0x0, 0x0, 0xffffffffffffffff, 0x0, 0x1)</code>\n"
    ++ codes "</p>\n</td>\n</tr>\n</tbody>\n</table>\n</section>\n")))))))))))))))))))))

abbrev pub ChangesWork : Type 0
ChangesWork = (piece : Piece) → HasParts 56 three_changes piece → changes names (piece ∷ []) ≡ changes_written
