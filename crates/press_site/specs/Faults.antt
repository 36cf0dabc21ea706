-- The number of each fault of a change of a site, and which of them each fault of posts and events is (own).
use Rattle.std.specs.Prelude.{ℕ}
use Rattle.press_events.specs.declared.fault.EventFault.{EventFault}
use Rattle.press_events.specs.declared.fault.EventFault.TheVariants as event
use Rattle.press_posts.specs.declared.fault.PostFault.{PostFault}
use Rattle.press_posts.specs.declared.fault.PostFault.TheVariants as post
use Rattle.press_site.specs.declared.fault.SiteFault.{SiteFault}
use Rattle.press_site.specs.declared.fault.SiteFault.TheVariants.{NoMemory, TooLong, NoSuchPost, NotTrashed, IsTrashed, TooManyPosts, TooManyEvents, AlreadyActive, NotActive, TooManyOptions, BadProfile}

abbrev pub site_fault_number : SiteFault → ℕ
site_fault_number NoMemory = 0
site_fault_number TooLong = 2
site_fault_number NoSuchPost = 10
site_fault_number NotTrashed = 11
site_fault_number IsTrashed = 12
site_fault_number TooManyPosts = 13
site_fault_number TooManyEvents = 14
site_fault_number AlreadyActive = 16
site_fault_number NotActive = 17
site_fault_number TooManyOptions = 18
site_fault_number BadProfile = 19

abbrev pub of_posts : PostFault → SiteFault
of_posts post.NoMemory = NoMemory
of_posts post.TooLong = TooLong
of_posts post.NoSuchPost = NoSuchPost
of_posts post.NotTrashed = NotTrashed
of_posts post.IsTrashed = IsTrashed
of_posts post.TooManyPosts = TooManyPosts

abbrev pub of_events : EventFault → SiteFault
of_events event.NoMemory = NoMemory
of_events event.TooLong = TooLong
of_events event.TooManyEvents = TooManyEvents
