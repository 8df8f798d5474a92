mod LastParts
mod MoreStars
