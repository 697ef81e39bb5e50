use Rattle.std.proofs.Common.{subst, ◌∙◌, ap, refl, false, Some}
use Rattle.sk_profile_json.specs.declared.machine.Machine.TheVariants.{X86_64}
use Rattle.sk_profile_json.specs.declared.context.Context.{Context}
use Rattle.sk_profile_json.specs.Capabilities.{names_of}
use Rattle.sk_profile_json.specs.Made.{IsMade}
use Rattle.libskern.specs.Profiles.{IsThere}
use Rattle.libskern.proofs.profile.image_of.Goals as goal

pub returns-in-Ok : goal.returns-in-Ok
returns-in-Ok c =
    let setting = c.args.setting.now in
    let context : Context = record {
      capabilities = c.deref.result;
      kernel = record { major = setting.kernel_major; minor = setting.kernel_minor };
      runc = setting.runc;
      machine = Some X86_64;
      native = false;
    } in
    let there : IsThere setting context = record {
      held = ap names_of c.deref.ensures.value ∙ c.in_ok-names.ensures.names;
      major = refl;
      minor = refl;
      runc = refl;
      machine = refl;
      native = refl;
    } in
    record {
      made = (context, there, (c.in-Ok.made, subst (λ made. IsMade context c.args.profile.now made) c.in-Ok.is c.in_ok-made.ensures.made, refl));
    }

pub returns : goal.returns
returns c =
    let setting = c.args.setting.now in
    let context : Context = record {
      capabilities = c.deref.result;
      kernel = record { major = setting.kernel_major; minor = setting.kernel_minor };
      runc = setting.runc;
      machine = Some X86_64;
      native = false;
    } in
    let there : IsThere setting context = record {
      held = ap names_of c.deref.ensures.value ∙ c.in_ok-names.ensures.names;
      major = refl;
      minor = refl;
      runc = refl;
      machine = refl;
      native = refl;
    } in
    record {
      made = (context, there, subst (λ made. IsMade context c.args.profile.now made) c.in-Err.is c.in_ok-made.ensures.made);
    }
