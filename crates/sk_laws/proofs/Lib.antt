pub mod Locality
pub mod Rights
pub mod Numbering
pub mod Handing
pub mod Announcing
pub mod Ancestry
pub mod WorkedWorlds
mod EachCall
mod EachChange
pub mod Happened
pub mod Unchanged
pub mod KeptEvents
pub mod Carrying
pub mod Authorities
pub mod LineageSteps
pub mod Growing
pub mod Accepted
pub mod Tellings
pub mod LeftOrphaned
pub mod Confined
pub mod Parents
pub mod Turns
pub mod Marks
pub mod Runs
pub mod Machines
pub mod HangingUp
pub mod Computing
pub mod Stepping
mod CallRows
mod SignalRows
mod WaitRows
mod GroupRows
mod TurnRows
mod LineageRows
mod EdgeRows
mod OrderRows
mod StateRows
mod OrphanRows
mod ReaperRows
mod WidthRows
mod LimitRows
mod Wrongs
