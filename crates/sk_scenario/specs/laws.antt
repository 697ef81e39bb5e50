pub mod WorkedScenarios
