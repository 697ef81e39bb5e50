-- Where a byte of a call stands that strace(1) writes: outside of all texts and brackets, or inside. Texts stand in double
-- quotes, in which a backslash takes its meaning from the byte behind it. What `-y` tells of a descriptor stands in angle
-- brackets, with `->` between the ends of a connection. A set of capabilities has `1<<` before the name of each.
use Rattle.std.specs.Prelude.{ℕ, ◌+◌, ◌-◌, ◌==◌, ◌&&◌, ◌||◌, nat_lt, not, Bool, true, false, if◌then◌else◌, List, [], ◌∷◌}
use Rattle.sk_replay.specs.declared.nest.Nest.{Nest}

-- nothing is open
abbrev pub outside : Nest
outside = record { is_quoted = false; is_escaped = false; before = 0; angles = 0; brackets = 0 }

abbrev pub is_outside : Nest → Bool
is_outside nest = not nest.is_quoted && (nest.angles == 0 && nest.brackets == 0)

-- `(` `[` `{`
abbrev pub opens : ℕ → Bool
opens byte = byte == 40 || (byte == 91 || byte == 123)

-- `)` `]` `}`
abbrev pub closes : ℕ → Bool
closes byte = byte == 41 || (byte == 93 || byte == 125)

-- how many are open behind a byte
abbrev pub brackets_behind : ℕ → ℕ → ℕ
brackets_behind count byte = if opens byte then count + 1 else if closes byte then count - 1 else count

-- `<` (60) opens one, but not that of `<<`
abbrev pub angles_opened : Nest → ℕ
angles_opened nest = if nest.angles == 1 && nest.before == 60 then 0 else nest.angles + 1

-- `>` (62) closes it, but not that of `->`
abbrev pub angles_behind : Nest → ℕ → ℕ
angles_behind nest byte =
    if byte == 60 then angles_opened nest else if byte == 62 && not (nest.before == 45) then nest.angles - 1 else nest.angles

-- between angle brackets nothing else has a meaning
abbrev pub in_angles : Nest → ℕ → Nest
in_angles nest byte = record nest { angles = angles_behind nest byte; before = byte }

abbrev pub in_brackets : Nest → ℕ → Nest
in_brackets nest byte =
    record nest { is_quoted = byte == 34; before = byte; angles = if byte == 60 then 1 else 0; brackets = brackets_behind nest.brackets byte }

-- a byte that is none behind a backslash (92)
abbrev pub plainly_behind : Nest → ℕ → Nest
plainly_behind nest byte =
    if nest.is_quoted then record nest { is_quoted = not (byte == 34); before = byte }
    else if nat_lt 0 nest.angles then in_angles nest byte
    else in_brackets nest byte

-- behind a byte
unfoldable pub behind : Nest → ℕ → Nest
behind nest byte =
    if nest.is_escaped then record nest { is_escaped = false; before = byte }
    else if byte == 92 then record nest { is_escaped = true; before = byte }
    else plainly_behind nest byte

-- a comma (44), or the parenthesis that closes the call
unfoldable pub ends_argument : Nest → ℕ → Bool
ends_argument nest byte = is_outside nest && (byte == 44 || byte == 41)

-- how many bytes stand before the end of an argument
abbrev pub end_from : Nest → List ℕ → ℕ
end_from nest [] = 0
end_from nest (byte ∷ rest) = if ends_argument nest byte then 0 else end_from (behind nest byte) rest + 1
