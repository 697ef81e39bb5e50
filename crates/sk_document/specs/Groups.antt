-- By what filters do with its calls, a row of `ask when` is in one of three groups.
use Rattle.std.specs.Prelude.{ℕ, ◌||◌, not, Bool, true, false, if◌then◌else◌, List, [], ◌∷◌, Option, Some, None}
use Rattle.std.specs.List.{list_any}
use Rattle.sk_insn.specs.Actions.{action_of, performs}
use Rattle.sk_terms.specs.declared.lines.Line.{Line}
use Rattle.sk_when.specs.declared.row.ConditionalRow.{ConditionalRow}
use Rattle.sk_document.specs.declared.group.Group.{Group}
use Rattle.sk_document.specs.declared.group.Group.TheVariants.{Refused, Conditional, Allowed}

-- the verdict lets the call through, or is not known: seccomp(2). One that asks a tracer or a listener does not by itself
abbrev pub may_perform : Option ℕ → Bool
may_perform (Some value) = performs (action_of value)
may_perform None = true

-- some verdict of a row does
abbrev pub some_may_perform : ConditionalRow → Bool
some_may_perform told = may_perform told.otherwise || list_any (λ line. may_perform line.value) told.lines.items

-- the only verdict of a row lets all its calls through
abbrev pub performs_all : List Line → Option ℕ → Bool
performs_all [] (Some value) = performs (action_of value)
performs_all lines otherwise = false

-- no call is performed, all are by one verdict, or it depends on their arguments
abbrev pub group_of : ConditionalRow → Group
group_of told =
    if not (some_may_perform told) then Refused
    else if performs_all told.lines.items told.otherwise then Allowed
    else Conditional

abbrev pub is_group : Group → Group → Bool
is_group Refused Refused = true
is_group Conditional Conditional = true
is_group Allowed Allowed = true
is_group one other = false

-- a row is in a group
abbrev pub is_in : Group → ConditionalRow → Bool
is_in group told = is_group (group_of told) group
