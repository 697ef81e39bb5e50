use Rattle.std.proofs.Common.{◌≡◌, ◌++◌, flat_map, map, string_bytes, take}
use Rattle.sk_ask.specs.Lints.{file_remark}
use Rattle.sk_ask.specs.Said.{said_of}
use Rattle.sk_ask.proofs.remark.push_files.Given as goal

abbrev pub invariant-loop-file : goal.invariant-loop-file
invariant-loop-file l = string_bytes l.text ≡ string_bytes l.initial.text ++ flat_map (file_remark l.call) (map said_of (take l.file-index l.files))
