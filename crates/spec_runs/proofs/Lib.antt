pub mod RealRuns
