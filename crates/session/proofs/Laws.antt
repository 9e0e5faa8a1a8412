-- Laws that a must-fail edit of a definition breaks: they stand here, since an edit after which specs/ cannot be read shows nothing.
pub mod Runs
