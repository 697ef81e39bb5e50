-- The calls that a container's runtime or a service manager makes itself, under the filter that it attaches to a program: they were measured, with strace(1).
use Rattle.std.specs.Prelude.{ℕ, ◌||◌, if◌then◌else◌, List, codes, Option, Some, None}
use Rattle.std.specs.Str.{bytes_eq}
use Rattle.sk_ask.specs.declared.runtime.Runtime.{Runtime}
use Rattle.sk_ask.specs.declared.runtime.Runtime.TheVariants.{Runc, Crun, Bwrap, Systemd}
use Rattle.sk_ask.specs.declared.runtime.TheConstants.{RUNC_LOG, CRUN_LOG, BWRAP_LOG, SYSTEMD_LOG}

-- the one with this name: docker takes runc
abbrev pub runtime_named : List ℕ → Option Runtime
runtime_named name =
    if bytes_eq name (codes "docker") || bytes_eq name (codes "runc") then Some Runc
    else if bytes_eq name (codes "crun") then Some Crun
    else if bytes_eq name (codes "bwrap") then Some Bwrap
    else if bytes_eq name (codes "systemd") then Some Systemd
    else None

-- its calls, as a log
abbrev pub runtime_log : Runtime → List ℕ
runtime_log Runc = RUNC_LOG.now
runtime_log Crun = CRUN_LOG.now
runtime_log Bwrap = BWRAP_LOG.now
runtime_log Systemd = SYSTEMD_LOG.now
