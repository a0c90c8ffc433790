mod SizeSteps
mod DesignSteps
