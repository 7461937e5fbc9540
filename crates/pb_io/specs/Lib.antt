-- Statement
pub mod Counts
pub mod Laws
pub mod MemSink
pub mod MemSource
pub mod Sink
pub mod Source
pub mod SureSink
pub mod SureSource
