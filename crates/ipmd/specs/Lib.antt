pub use Rattle.ipmd_run_journals.specs.Keeping
pub use Rattle.ipmd_commands.specs.Status
pub use Rattle.ipmd_commands.specs.HexText
pub use Rattle.ipmd_commands.specs.Runs
pub mod Replays
pub mod Serving
pub mod Program
