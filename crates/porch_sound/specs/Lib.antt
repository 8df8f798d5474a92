-- which objects were made so far and of which types, and which values and stores agree with that
pub mod Typing
-- what is done with objects gives values of its type, and keeps the store typed
pub mod Laws
