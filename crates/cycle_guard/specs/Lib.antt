pub mod WaitCycle
