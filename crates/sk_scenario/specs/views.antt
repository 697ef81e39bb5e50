pub mod ScenarioCode
