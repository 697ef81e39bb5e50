use Rattle.std.proofs.Common.{◌≡◌, Result, Ok}
use Rattle.sk_scenario.proofs.Common.{TextFault, Setting}
use Rattle.sk_scenario.proofs.Relation.{scenario-stands, scenario-only}
use Rattle.sk_scenario.proofs.laws.readings_find_what_a_text_stands_for.Goals as goal

same_setting : (result : Result Setting TextFault) (setting other : Setting) → result ≡ Ok setting → result ≡ Ok other → setting ≡ other
same_setting result setting other e h = cc

pub returns : goal.returns
returns c = record {
  exact = λ text setting. (scenario-stands text setting, scenario-only text setting);
  one = λ text setting other h g. same_setting _ setting other (scenario-only text setting h) (scenario-only text other g);
}
