-- operators with the operands behind them
pub mod Operands
-- what only private contracts cite
pub mod inside
