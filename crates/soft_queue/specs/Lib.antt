pub mod Turn
pub use Rattle.process_queue.specs.Queue
