-- temporaries by type
pub mod Numbers
-- code in the making
pub mod MadeSame
