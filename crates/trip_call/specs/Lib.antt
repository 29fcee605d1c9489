-- What a trip answers and leaves (Trip), the stages before a search (Stage), the laws between a search and
-- its trip (Drive), and a trip with its target's hours (Visit).
pub mod Trip
pub mod Stage
pub mod Drive
pub mod Visit
