-- Opening a network: the answer and the lent tables (Open), and which numbers its refusals have (Numbers).
pub mod Open
pub mod Numbers
