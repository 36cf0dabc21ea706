-- The number of each fault of a change of posts (own).
use Rattle.std.specs.Prelude.{ℕ}
use Rattle.press_posts.specs.declared.fault.PostFault.{PostFault}
use Rattle.press_posts.specs.declared.fault.PostFault.TheVariants.{NoMemory, TooLong, NoSuchPost, NotTrashed, IsTrashed, TooManyPosts}

abbrev pub post_fault_number : PostFault → ℕ
post_fault_number NoMemory = 0
post_fault_number TooLong = 2
post_fault_number NoSuchPost = 10
post_fault_number NotTrashed = 11
post_fault_number IsTrashed = 12
post_fault_number TooManyPosts = 13
