-- What a signal does to a body, and leaves to be done in the world, is what its delivery comes to.
use Rattle.std.proofs.Common.{◌≡◌, ◌∙◌, ◌==◌, ℕ, ap, sym, refl, Bool, true, false, cond, not, ◌&&◌, length, Some}
use Rattle.sk_kernel.proofs.Common.{SIGKILL, SIGSEGV, SIGSYS, Signals, default_action, disposition_of, INIT, Body, Proc, World, at, changed, with_body, given_back, changed_twice, is_waiting, in_handler, taking, ignored, terminated_by, acts_by_default, acts_by_disposition, delivered, Acted, entered, deed_of, default_deed, acted_by, acted, left}
use Rattle.sk_world.specs.declared.signal_state.TheConstants.{FRAMES}
use Rattle.sk_world.specs.declared.disposition.DefaultAction.{DefaultAction}
use Rattle.sk_world.specs.declared.disposition.Disposition.{Disposition}
use Rattle.sk_machine.specs.declared.answer.Effect.TheVariants.{Ignored, Handler}
use Rattle.sk_kernel.specs.declared.delivering.Deed.TheVariants.{Nothing, End}
use Rattle.sk_world.specs.declared.disposition.DefaultAction.TheVariants as action
use Rattle.sk_world.specs.declared.disposition.Disposition.TheVariants as disposition

module _ (w : World) (pid n : ℕ) (p : Proc) (b : Body) (is : at w pid ≡ Some p) (own : p.body ≡ b) where
  taken : with_body w pid (taking n b) ≡ changed w pid (taking n)
  taken = given_back w pid (taking n) p b is own

  by_default : (a : DefaultAction) (v : World) → left v pid n (deed_of n a) ≡ acts_by_default v pid n a
  by_default action.Ignore v = refl
  by_default action.Continue v = refl
  by_default action.Stop v = refl
  by_default action.Terminate v = refl

  if_minded : (unminded : Bool) (a : DefaultAction) (v : World) → left v pid n (cond unminded (Nothing Ignored) (deed_of n a)) ≡ cond unminded (ignored v) (acts_by_default v pid n a)
  if_minded true a v = refl
  if_minded false a v = by_default a v

  if_full : (full : Bool) (program : ℕ) (mask : Signals) (acted : Acted)
      → acted ≡ cond full (record { deed = End SIGSEGV; body = taking n b }) (record { deed = Nothing (Handler program (is_waiting b.waiting)); body = in_handler n mask (taking n b) })
      → left (with_body w pid acted.body) pid n acted.deed
      ≡ cond full (terminated_by (changed w pid (taking n)) pid SIGSEGV) (record { effect = Handler program (is_waiting b.waiting); world = changed (changed w pid (taking n)) pid (in_handler n mask) })
  if_full true program mask acted e = ap (λ a. left (with_body w pid a.body) pid n a.deed) e ∙ ap (λ v. terminated_by v pid SIGSEGV) taken
  if_full false program mask acted e =
      ap (λ a. left (with_body w pid a.body) pid n a.deed) e
      ∙ ap (λ v. record { effect = Handler program (is_waiting b.waiting); world = v }) (given_back w pid (λ x. in_handler n mask (taking n x)) p b is own ∙ sym (changed_twice w pid (taking n) (in_handler n mask)))

  by_disposition : (d : Disposition) → left (with_body w pid (acted_by pid (taking n b) n d).body) pid n (acted_by pid (taking n b) n d).deed ≡ acts_by_disposition (changed w pid (taking n)) pid (taking n b) n d
  by_disposition disposition.Ignore = ap ignored taken
  by_disposition (disposition.Handler program mask) = if_full (length b.signals.frames == FRAMES) program mask (entered (taking n b) n program mask) refl
  by_disposition disposition.Default =
      ap (λ v. left v pid n (default_deed pid n)) taken ∙ if_minded ((pid == INIT) && not (n == SIGSYS)) (default_action n) (changed w pid (taking n))

  -- what is left to be done comes to what the delivery comes to
  pub left_is : left (with_body w pid (acted pid b n).body) pid n (acted pid b n).deed ≡ delivered w pid b n
  left_is = if_killed (n == SIGKILL) (disposition_of (taking n b).signals n) (acted pid b n) refl
    where
      if_killed : (kills : Bool) (d : Disposition) (a : Acted) → a ≡ cond kills (record { deed = End SIGKILL; body = taking n b }) (acted_by pid (taking n b) n d)
          → left (with_body w pid a.body) pid n a.deed ≡ cond kills (terminated_by (changed w pid (taking n)) pid SIGKILL) (acts_by_disposition (changed w pid (taking n)) pid (taking n b) n d)
      if_killed true d a e = ap (λ a. left (with_body w pid a.body) pid n a.deed) e ∙ ap (λ v. terminated_by v pid SIGKILL) taken
      if_killed false d a e = ap (λ a. left (with_body w pid a.body) pid n a.deed) e ∙ by_disposition d
