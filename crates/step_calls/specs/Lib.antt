pub mod StepCalls
pub mod Claims
pub mod laws
