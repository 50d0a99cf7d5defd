mod LawExamples
mod TrailExamples
mod PostExamples
mod LatchExamples
