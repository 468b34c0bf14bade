-- What the plan of a result and its room go by, and what each return of a call that writes anew answers.
pub mod Laws
pub mod Answered
