-- What the code's reply puts out.
use Rattle.std.specs.Prelude.{string_bytes}
use Rattle.sk_engines.specs.Output.{Output, done, refused}
use Rattle.sk_engines.specs.declared.reply.Reply.{Reply}
use Rattle.sk_engines.specs.declared.reply.Reply.TheVariants.{Done, Accepted, Refused}

abbrev pub output_of : Reply → Output
output_of (Done text) = done (string_bytes text)
output_of (Accepted line) = done line.bytes
output_of (Refused line) = refused line.bytes
