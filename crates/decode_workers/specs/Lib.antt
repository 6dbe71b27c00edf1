pub use Rattle.prepared_message.specs.Preparation
