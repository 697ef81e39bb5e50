use Rattle.std.proofs.Common.{length, map, Ok, Err, sym, rules}
use Rattle.std.proofs.lemmas.List.{length-map, nil_from_length}
use Rattle.sk_ask.proofs.Given.{found_given}
use Rattle.sk_ask.proofs.files.find.Goals as goal

pub returns-in-Err-clause-given : goal.returns-in-Err-clause-given
returns-in-Err-clause-given c =
    found_given (map (λ file. file.items) c.args.files.now) (Err c.in-Err.refused) (length c.args.files.now) (sym (length-map _ _)) (search rules)

pub returns-clause-given : goal.returns-clause-given
returns-clause-given c =
    let none = nil_from_length c.loop-file.rest.now c.in_default.ensures.cases in
    let so_far = c.loop-file.invariant.so_far in
    found_given (map (λ file. file.items) c.args.files.now) (Ok c.loop-file.found) (length c.args.files.now) (sym (length-map _ _)) (sym (rw none at so_far))
