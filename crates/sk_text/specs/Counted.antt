-- What a counted end holds.
use Rattle.std.specs.Prelude.{ℕ}
use Rattle.sk_text.specs.declared.counted.Counted.{Counted}

-- the reader or the writer itself
abbrev pub inner_of : {T : Type 0} → Counted T → T
inner_of c = c.inner

-- how many failures it has answered
abbrev pub failures_of : {T : Type 0} → Counted T → ℕ
failures_of c = c.failures
