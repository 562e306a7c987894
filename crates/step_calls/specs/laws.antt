pub mod StepCallLaws
pub mod CrossingLaws
