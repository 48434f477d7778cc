-- What the code computes, on any input, as its contracts say it. Nobody has to believe it: theorems
-- lead from here to the words of the papers.
pub mod Singles
pub mod Answer
