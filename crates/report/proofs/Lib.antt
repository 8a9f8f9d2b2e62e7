-- one step of a loop that adds lines
mod Lines
-- one step of a loop that adds outcomes
mod OutcomeList
-- sets of orders, each report once
mod Sets
