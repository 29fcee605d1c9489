-- Steps by one division (Fixed), and the runs of ticks at which a line has one value (Runs).
pub mod Fixed
pub mod Runs
