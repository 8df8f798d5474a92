-- parameter lists among the parts of declarators
pub mod Lists
