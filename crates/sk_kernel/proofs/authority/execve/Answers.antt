use Rattle.std.proofs.Common.{◌≡◌, ◌∙◌, ap, refl, Option, None}
use Rattle.sk_kernel.proofs.Common.{register, authority_of, after_execve, mark_of, execve}
use Rattle.sk_machine.specs.declared.images.Mark.{Mark}
use Rattle.sk_kernel.proofs.Rows.{has_left}
use Rattle.sk_kernel.proofs.authority.execve.Goals as goal

pub returns-in-None-clause-performed : goal.returns-in-None-clause-performed
returns-in-None-clause-performed c =
    let body = c.args.body.now in
    let none : None ≡ mark_of c.args.declared.now (register c.args.call.now 0) = c.in-None.ensures ∙ ap (mark_of c.args.declared.now) c.register.ensures in
    has_left c.args.pid (λ w b. execve w c.args.pid (after_execve (authority_of b) (mark_of c.args.declared.now (register c.args.call.now 0)))) body c.failed.result body (λ w. (
      c.failed.ensures ∙ ap (λ (m : Option Mark). (execve w c.args.pid (after_execve (authority_of body) m)).outcome) none,
      ap (λ (m : Option Mark). (execve w c.args.pid (after_execve (authority_of body) m)).world) none,
    )) refl
