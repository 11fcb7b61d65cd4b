-- Lemmas about higher-order logic.
-- tests, options and lists
pub mod Tools
-- equality tests decide equality
pub mod Equality
-- which term has which type, as a relation
pub mod Typing
-- a theory grows by what is declared
pub mod Growth
-- types for type variables
pub mod TypeSubst
-- weakening, opening, closing, terms for free variables
pub mod Contexts
-- types of terms are ok
pub mod OkTypes
-- what is known of declared definitions, axioms and theorems
pub mod Declarations
-- what can be derived has type bool
pub mod Types
-- assumption lists
pub mod Assumptions
-- terms and declarations that were recognised
pub mod Shapes
-- what a step finds can be derived
pub mod Steps
-- what is accepted is a well-formed theory
pub mod Accepted
-- each assumption stands once
pub mod Once
-- codes of functions
pub mod Codes
-- cardinalities of types
pub mod Cards
-- type variables, and cardinalities by them
pub mod TypeVars
-- types and values together, as a relation
pub mod Denotes
-- values where λs around a term come and go
pub mod Binding
-- values with terms for free variables, with types for type variables
pub mod Instances
-- values depend only on the variables that appear
pub mod Depends
-- values of constants
pub mod Constants
-- values in larger theories, and of defined constants
pub mod Definitions
-- when an equation holds
pub mod Truths
-- values of the terms that rules build
pub mod Worths
-- each rule keeps validity
pub mod ValidRules
-- what can be derived is valid
pub mod Soundness
-- the definitions at work: small texts, and what they come to
pub mod Cases
-- the mistakes that provers have made, each refused or done right by the definitions
pub mod Mistakes
-- the corners of the text format
pub mod Corners
