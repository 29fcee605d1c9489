-- The file of a plan (PlanEncode), what is read of it again (PlanRoundTrip), what the writing of it requires
-- (Places), the file in the making (Laying, Frames), and that it is the plan's file in the end (PlanWritten).
pub mod PlanEncode
pub mod PlanRoundTrip
pub mod Places
pub mod Laying
pub mod Frames
pub mod PlanWritten
